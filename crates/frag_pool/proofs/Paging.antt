-- Nodes in pages: one after another, the nth of them, and the first of them.
use Rattle.std.proofs.Common.{◌≡◌, ℕ, zero, suc, ◌+◌, ◌*◌, ◌≤◌, List, [], ◌∷◌, ◌++◌, length, take, Vec, Some}
use Rattle.std.proofs.Common.{refl, sym, subst, ◌∙◌, ap, append_assoc, length-append, arith}
use Rattle.std.specs.Prelude.{slice_get}
use Rattle.std.specs.declared.alloc.Global.{Global}
use Rattle.mc_base.specs.declared.fragment.Node.{Node}
use Rattle.frag_pool.specs.Pages.{AreFull, paged}

-- ---- one after another

pub paged-more : (ps : List (Vec Node Global)) (xs ys : List Node) → paged ps (xs ++ ys) ≡ paged ps xs ++ ys
paged-more [] xs ys = refl
paged-more (p ∷ ps) xs ys = ap (λ zs. p.items ++ zs) (paged-more ps xs ys) ∙ sym (append_assoc p.items (paged ps xs) ys)

pub paged-page : (ps : List (Vec Node Global)) (page : Vec Node Global) (last : List Node) →
    paged (ps ++ page ∷ []) last ≡ paged ps (page.items ++ last)
paged-page [] page last = refl
paged-page (p ∷ ps) page last = ap (λ zs. p.items ++ zs) (paged-page ps page last)

pub paged-length : (ps : List (Vec Node Global)) (last : List Node) → AreFull ps →
    length (paged ps last) ≡ 256 * length ps + length last
paged-length [] last full = omega arith
paged-length (p ∷ ps) last full =
    let e = length-append p.items (paged ps last) in
    let rest = paged-length ps last full.1 in
    omega (arith, e, rest, full.0)

pub full-more : (ps : List (Vec Node Global)) (page : Vec Node Global) → AreFull ps → length page.items ≡ 256 → AreFull (ps ++ page ∷ [])
full-more [] page full long = (long, tt)
full-more (p ∷ ps) page full long = (full.0, full-more ps page full.1 long)

pub full-fewer : (ps : List (Vec Node Global)) (page : Vec Node Global) → AreFull (ps ++ page ∷ []) → AreFull ps × (length page.items ≡ 256)
full-fewer [] page full = (tt, full.0)
full-fewer (p ∷ ps) page full = let rest = full-fewer ps page full.1 in ((full.0, rest.0), rest.1)

pub full-at : (ps : List (Vec Node Global)) (k : ℕ) (page : Vec Node Global) → AreFull ps → slice_get ps k ≡ Some page →
    length page.items ≡ 256
full-at [] k page full at = absurd cc
full-at (p ∷ ps) zero page full at = let same : p ≡ page = cc in ap (λ (q : Vec Node Global). length q.items) (sym same) ∙ full.0
full-at (p ∷ ps) (suc k) page full at = full-at ps k page full.1 at

-- ---- the nth

get-first : (xs ys : List Node) (k : ℕ) (x : Node) → slice_get xs k ≡ Some x → slice_get (xs ++ ys) k ≡ Some x
get-first [] ys k x h = absurd cc
get-first (z ∷ xs) ys zero x h = h
get-first (z ∷ xs) ys (suc k) x h = get-first xs ys k x h

get-later : (xs ys : List Node) (k : ℕ) → slice_get (xs ++ ys) (length xs + k) ≡ slice_get ys k
get-later [] ys k = let e : 0 + k ≡ k = omega arith in ap (λ n. slice_get ys n) e
get-later (x ∷ xs) ys k =
    let e : suc (length xs) + k ≡ suc (length xs + k) = omega arith in
    ap (λ n. slice_get (x ∷ (xs ++ ys)) n) e ∙ get-later xs ys k

pub in-page : (ps : List (Vec Node Global)) (last : List Node) (k j : ℕ) (page : Vec Node Global) (x : Node) → AreFull ps →
    slice_get ps k ≡ Some page → slice_get page.items j ≡ Some x → slice_get (paged ps last) (256 * k + j) ≡ Some x
in-page [] last k j page x full at inside = absurd cc
in-page (p ∷ ps) last zero j page x full at inside =
    let same : p ≡ page = cc in
    let index : j ≡ 256 * 0 + j = omega arith in
    subst (λ n. slice_get (p.items ++ paged ps last) n ≡ Some x) index
    (get-first p.items (paged ps last) j x (ap (λ (q : Vec Node Global). slice_get q.items j) same ∙ inside))
in-page (p ∷ ps) last (suc k) j page x full at inside =
    let index : length p.items + (256 * k + j) ≡ 256 * suc k + j = omega (arith, full.0) in
    subst (λ n. slice_get (p.items ++ paged ps last) n ≡ Some x) index
    (get-later p.items (paged ps last) (256 * k + j) ∙ in-page ps last k j page x full.1 at inside)

pub in-last : (ps : List (Vec Node Global)) (last : List Node) (j : ℕ) (x : Node) → AreFull ps → slice_get last j ≡ Some x →
    slice_get (paged ps last) (256 * length ps + j) ≡ Some x
in-last [] last j x full inside =
    let index : j ≡ 256 * 0 + j = omega arith in
    subst (λ n. slice_get last n ≡ Some x) index inside
in-last (p ∷ ps) last j x full inside =
    let index : length p.items + (256 * length ps + j) ≡ 256 * suc (length ps) + j = omega (arith, full.0) in
    subst (λ n. slice_get (p.items ++ paged ps last) n ≡ Some x) index
    (get-later p.items (paged ps last) (256 * length ps + j) ∙ in-last ps last j x full.1 inside)

-- ---- the first

take-within : (xs ys : List Node) (n : ℕ) → n ≤ length xs → take n (xs ++ ys) ≡ take n xs
take-within xs ys zero le = refl
take-within [] ys (suc n) le = absurd (omega (arith, le))
take-within (x ∷ xs) ys (suc n) le = ap (λ zs. x ∷ zs) (take-within xs ys n (omega (arith, le)))

take-over : (xs ys : List Node) (n : ℕ) → take (length xs + n) (xs ++ ys) ≡ xs ++ take n ys
take-over [] ys n = let e : 0 + n ≡ n = omega arith in ap (λ m. take m ys) e
take-over (x ∷ xs) ys n =
    let e : suc (length xs) + n ≡ suc (length xs + n) = omega arith in
    ap (λ m. take m (x ∷ (xs ++ ys))) e ∙ ap (λ zs. x ∷ zs) (take-over xs ys n)

-- those of the full pages, and of the last page the first n
pub take-paged : (ps : List (Vec Node Global)) (last : List Node) (n : ℕ) → AreFull ps →
    take (256 * length ps + n) (paged ps last) ≡ paged ps (take n last)
take-paged [] last n full = let e : 256 * 0 + n ≡ n = omega arith in ap (λ m. take m last) e
take-paged (p ∷ ps) last n full =
    let index : length p.items + (256 * length ps + n) ≡ 256 * suc (length ps) + n = omega (arith, full.0) in
    subst (λ m. take m (p.items ++ paged ps last) ≡ p.items ++ paged ps (take n last)) index
    (take-over p.items (paged ps last) (256 * length ps + n) ∙ ap (λ zs. p.items ++ zs) (take-paged ps last n full.1))

-- of those up to the end of a page, the first n are the same without the page after it
pub take-back : (ps : List (Vec Node Global)) (page : Vec Node Global) (last : List Node) (n : ℕ) → AreFull (ps ++ page ∷ []) →
    n ≤ 256 * (length ps + 1) → take n (paged (ps ++ page ∷ []) last) ≡ take n (paged ps page.items)
take-back ps page last n full le =
    let each = full-fewer ps page full in
    let long = paged-length ps page.items each.0 in
    ap (take n) (paged-page ps page last ∙ paged-more ps page.items last)
    ∙ take-within (paged ps page.items) last n (omega (arith, le, long, each.1))
