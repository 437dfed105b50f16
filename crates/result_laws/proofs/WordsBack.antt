-- What is written in the words of a line is what is read in them.
use Rattle.std.proofs.Common.{◌≡◌, ℕ, ◌^◌, ◌==◌, ◌<◌, ◌≤◌, Bool, true, false, List, [], ◌∷◌, ◌++◌, length, map, refl, sym}
use Rattle.std.proofs.Common.{◌∙◌, ap, subst, arith, cond, suc, Option, Some, None}
use Rattle.std.specs.Prelude.{nat_lt, nat_le, All}
use Rattle.std.specs.List.{list_any, flat_map}
use Rattle.std.specs.Fmt.{decimal}
use Rattle.std.specs.Str.{bytes_eq}
use Rattle.std.proofs.lemmas.Bool.{or_parts}
use Rattle.std.proofs.lemmas.Bool.Decides.{nat_tests}
use Rattle.std.proofs.lemmas.List.{append-nil}
use Rattle.std.proofs.lemmas.List.Elements.{All-nil, All-cons}
use Rattle.std.proofs.lemmas.Slice.Eq.{bytes_eq-Decides}
use Rattle.flow_text.specs.Numbers.{IsNumber, number_at}
use Rattle.flow_text.specs.Forms.{form_of, last_field}
use Rattle.flow_text.specs.declared.line.Form.TheVariants.{Atom}
use Rattle.flow_text.proofs.FormLemmas.{number_again, form_takes}
use Rattle.flow_list.specs.Tokens.{Token}
use Rattle.flow_list.specs.TreeText.{token_text}
use Rattle.result_laws.specs.Given.{IsSmall, IsToken}
use Rattle.result_laws.specs.Words.{onto, parted, number_of, small_of, smalls_of, numbers_of, token_of, all_of, where_true, ◌>>=◌}
use Rattle.result_laws.proofs.Spelling.{Without, AllWithout, AllSmall, all-small, decimals-without}

-- ---- parts

pub parted-step : (stop b : ℕ) (bytes : List ℕ) → (b == stop) ≡ false → parted stop (b ∷ bytes) ≡ onto b (parted stop bytes)
unfolding parted
parted-step stop b bytes e = go (b == stop) e
  where
    go : (x : Bool) → x ≡ false
        → (let rest = parted stop bytes in elim x as (λ _. List (List ℕ)) [ true ↦ [] ∷ rest | false ↦ onto b rest ])
        ≡ onto b (parted stop bytes)
    go true k = cc
    go false k = refl

pub parted-stop : (stop b : ℕ) (bytes : List ℕ) → (b == stop) ≡ true → parted stop (b ∷ bytes) ≡ [] ∷ parted stop bytes
unfolding parted
parted-stop stop b bytes e = go (b == stop) e
  where
    go : (x : Bool) → x ≡ true
        → (let rest = parted stop bytes in elim x as (λ _. List (List ℕ)) [ true ↦ [] ∷ rest | false ↦ onto b rest ])
        ≡ [] ∷ parted stop bytes
    go true k = refl
    go false k = cc

pub parted-none : (stop : ℕ) → parted stop [] ≡ [] ∷ []
unfolding parted
parted-none stop = refl

without-both : (stop b : ℕ) (w : List ℕ) → Without stop (b ∷ w) → ((b == stop) ≡ false) × Without stop w
without-both stop b w e = or_parts (b == stop) (list_any (λ c. c == stop) w) e

-- a word alone, and one before a stop
parted-word : (stop : ℕ) (w : List ℕ) → Without stop w → parted stop w ≡ w ∷ []
parted-word stop [] e = parted-none stop
parted-word stop (b ∷ w) e =
    let k = without-both stop b w e in
    parted-step stop b w k.0 ∙ ap (λ ws. onto b ws) (parted-word stop w k.1)

parted-more : (stop : ℕ) (w rest : List ℕ) → Without stop w → parted stop (w ++ stop ∷ rest) ≡ w ∷ parted stop rest
parted-more stop [] rest e = parted-stop stop stop rest (grind (arith, nat_tests))
parted-more stop (b ∷ w) rest e =
    let k = without-both stop b w e in
    parted-step stop b (w ++ stop ∷ rest) k.0 ∙ ap (λ ws. onto b ws) (parted-more stop w rest k.1)

-- words with a stop between each two
abbrev pub joined : ℕ → List (List ℕ) → List ℕ
joined stop [] = []
joined stop (w ∷ ws) = w ++ flat_map (λ v. stop ∷ v) ws

pub parted-words : (stop : ℕ) (w : List ℕ) (ws : List (List ℕ)) → Without stop w → AllWithout stop ws
    → parted stop (joined stop (w ∷ ws)) ≡ w ∷ ws
parted-words stop w [] e a = ap (λ bs. parted stop bs) (append-nil w) ∙ parted-word stop w e
parted-words stop w (v ∷ vs) e a =
    parted-more stop w (joined stop (v ∷ vs)) e ∙ ap (λ ws. w ∷ ws) (parted-words stop v vs a.0 a.1)

-- the parts of a text make it up, and there is one
joined-onto : (stop b : ℕ) (ws : List (List ℕ)) → joined stop (onto b ws) ≡ b ∷ joined stop ws
joined-onto stop b [] = refl
joined-onto stop b (w ∷ ws) = refl

pub parted-some : (stop : ℕ) (bytes : List ℕ) → parted stop bytes ≡ [] → ⊥
parted-some stop [] e = absurd (let k = sym (parted-none stop) ∙ e in cc)
parted-some stop (b ∷ bytes) e = go (b == stop) refl (parted stop bytes) refl
  where
    go : (t : Bool) → (b == stop) ≡ t → (ws : List (List ℕ)) → parted stop bytes ≡ ws → ⊥
    go true is ws same = let k = sym (parted-stop stop b bytes is) ∙ e in cc
    go false is [] same = let k = sym (parted-step stop b bytes is ∙ ap (onto b) same) ∙ e in cc
    go false is (w ∷ ws) same = let k = sym (parted-step stop b bytes is ∙ ap (onto b) same) ∙ e in cc

joined-stop : (stop : ℕ) (ws : List (List ℕ)) → (ws ≡ [] → ⊥) → joined stop ([] ∷ ws) ≡ stop ∷ joined stop ws
joined-stop stop [] never = absurd (never refl)
joined-stop stop (w ∷ ws) never = refl

pub parts-join : (stop : ℕ) (bytes : List ℕ) → joined stop (parted stop bytes) ≡ bytes
parts-join stop [] = ap (joined stop) (parted-none stop)
parts-join stop (b ∷ bytes) = go (b == stop) refl (parts-join stop bytes)
  where
    go : (t : Bool) → (b == stop) ≡ t → joined stop (parted stop bytes) ≡ bytes
        → joined stop (parted stop (b ∷ bytes)) ≡ b ∷ bytes
    go true is rest =
        let same : b ≡ stop = grind (arith, nat_tests) in
        ap (joined stop) (parted-stop stop b bytes is) ∙ joined-stop stop (parted stop bytes) (parted-some stop bytes)
        ∙ ap (λ bs. stop ∷ bs) rest ∙ ap (λ c. c ∷ bytes) (sym same)
    go false is rest =
        ap (joined stop) (parted-step stop b bytes is) ∙ joined-onto stop b (parted stop bytes) ∙ ap (λ bs. b ∷ bs) rest

-- ---- steps of reading

pub some-step : {A B : Type 0} (P : Type 0) (r : Option A) (f : A → Option B) (y : B) → (r >>= f) ≡ Some y
    → ((x : A) → r ≡ Some x → f x ≡ Some y → P) → P
some-step P (Some x) f y e go = go x refl e
some-step P None f y e go = absurd cc

pub where-is : {A : Type 0} (b : Bool) (x y : A) → where_true b x ≡ Some y → (b ≡ true) × (x ≡ y)
where-is true x y e = (refl, cc)
where-is false x y e = absurd cc

-- a test, and what follows where it fails
pub tested : {A : Type 0} (P : Type 0) (b : Bool) (r s : Option A) (y : A) → cond b r s ≡ Some y → (b ≡ true → r ≡ Some y → P)
    → (b ≡ false → s ≡ Some y → P) → P
tested P true r s y e k l = k refl e
tested P false r s y e k l = l refl e

pub same-bytes : (a b : List ℕ) → bytes_eq a b ≡ true → a ≡ b
same-bytes a b h = (bytes_eq-Decides a b).0 h

pub cons-same : {A : Type 0} {x y : A} {xs ys : List A} → x ≡ y → xs ≡ ys → (x ∷ xs) ≡ (y ∷ ys)
cons-same e f = cc

pub some-same : {A : Type 0} (x y : A) → Some x ≡ Some y → x ≡ y
some-same x y e = cc

-- ---- words that are numbers

pub number-back : (n : ℕ) → IsNumber n → number_of (decimal n) ≡ Some n
unfolding number_of
number-back n is = ap (λ o. o >>= all_of) (sym (ap number_at (append-nil (decimal n))) ∙ number_again n [] is tt)

-- the same number after a letter is the line of an atom
atom-form : (w : List ℕ) (n : ℕ) → number_at w ≡ Some (n, []) → form_of (97 ∷ 32 ∷ w) ≡ Some (Atom n)
unfolding form_of last_field
atom-form w n e = rw e refl

all-is : (x : ℕ × List ℕ) (n : ℕ) → all_of x ≡ Some n → x ≡ (n, [])
all-is (m, []) n e = ap (λ k. (k, [])) (some-same m n e)
all-is (m, b ∷ bytes) n e = absurd cc

pub number-said : (w : List ℕ) (n : ℕ) → number_of w ≡ Some n → (w ≡ decimal n) × IsNumber n
unfolding number_of
number-said w n e = some-step ((w ≡ decimal n) × IsNumber n) (number_at w) all_of n e (λ x i f.
    let k = form_takes (97 ∷ 32 ∷ w) (Atom n) (atom-form w n (i ∙ ap Some (all-is x n f))) in
    let same = k.1 in
    let s : w ≡ decimal n = cc in
    (s, k.0))

pub small-back : (n : ℕ) → IsSmall n → small_of (decimal n) ≡ Some n
unfolding small_of
small-back n is =
    let e = number-back n (omega arith) in
    let t : nat_lt n (2 ^ 32) ≡ true = grind (arith, nat_tests) in
    rw (e, t) refl

pub small-said : (w : List ℕ) (n : ℕ) → small_of w ≡ Some n → (w ≡ decimal n) × IsSmall n
unfolding small_of
small-said w n e = some-step ((w ≡ decimal n) × IsSmall n) (number_of w) (λ n. where_true (nat_lt n (2 ^ 32)) n) n e (λ m i f.
    let k = where-is (nat_lt m (2 ^ 32)) m n f in
    let t : nat_lt m (2 ^ 32) ≡ true = k.0 in
    let lt : m < 2 ^ 32 = grind (arith, nat_tests) in
    let s = number-said w m i in
    (s.0 ∙ ap decimal k.1, subst IsSmall k.1 lt))

pub smalls-back : (ns : List ℕ) → AllSmall ns → smalls_of (map decimal ns) ≡ Some ns
smalls-back [] a = refl
smalls-back (n ∷ ns) a = rw (small-back n a.0, smalls-back ns a.1) refl

pub smalls-said : (ws : List (List ℕ)) (ns : List ℕ) → smalls_of ws ≡ Some ns → (ws ≡ map decimal ns) × All IsSmall ns
smalls-said [] ns e =
    let k : [] ≡ ns = some-same [] ns e in
    subst (λ ms. ([] ≡ map decimal ms) × All IsSmall ms) k (refl, All-nil IsSmall)
smalls-said (w ∷ ws) ns e = some-step ((w ∷ ws ≡ map decimal ns) × All IsSmall ns) (small_of w) _ ns e
    (λ n i f. some-step ((w ∷ ws ≡ map decimal ns) × All IsSmall ns) (smalls_of ws) _ ns f (λ ms j g.
    let a = small-said w n i in
    let b = smalls-said ws ms j in
    subst (λ ks. (w ∷ ws ≡ map decimal ks) × All IsSmall ks) (some-same (n ∷ ms) ns g)
    (cons-same a.0 b.0, All-cons IsSmall n ms a.1 b.1)))

pub numbers-back : (ns : List ℕ) → All IsNumber ns → numbers_of (map decimal ns) ≡ Some ns
numbers-back [] a = refl
numbers-back (n ∷ ns) a =
    rw (number-back n (a 0 0 (omega arith)), numbers-back ns (λ k d lt. a (suc k) d (omega arith))) refl

pub numbers-said : (ws : List (List ℕ)) (ns : List ℕ) → numbers_of ws ≡ Some ns → (ws ≡ map decimal ns) × All IsNumber ns
numbers-said [] ns e =
    let k : [] ≡ ns = some-same [] ns e in
    subst (λ ms. ([] ≡ map decimal ms) × All IsNumber ms) k (refl, All-nil IsNumber)
numbers-said (w ∷ ws) ns e = some-step ((w ∷ ws ≡ map decimal ns) × All IsNumber ns) (number_of w) _ ns e
    (λ n i f. some-step ((w ∷ ws ≡ map decimal ns) × All IsNumber ns) (numbers_of ws) _ ns f (λ ms j g.
    let a = number-said w n i in
    let b = numbers-said ws ms j in
    subst (λ ks. (w ∷ ws ≡ map decimal ks) × All IsNumber ks) (some-same (n ∷ ms) ns g)
    (cons-same a.0 b.0, All-cons IsNumber n ms a.1 b.1)))

-- ---- words that are places

dotted : (ns : List ℕ) → flat_map (λ v. 46 ∷ v) (map decimal ns) ≡ flat_map (λ n. 46 ∷ decimal n) ns
dotted [] = refl
dotted (n ∷ ns) = ap (λ bs. (46 ∷ decimal n) ++ bs) (dotted ns)

token-joined : (q : Token) → joined 46 (map decimal q) ≡ token_text q
token-joined [] = refl
token-joined (i ∷ ns) = ap (λ bs. decimal i ++ bs) (dotted ns)

token-parts : (q : Token) → 1 ≤ length q → AllWithout 46 (map decimal q) → parted 46 (token_text q) ≡ map decimal q
token-parts [] some a = absurd (omega arith)
token-parts (i ∷ ns) some a =
    ap (parted 46) (sym (token-joined (i ∷ ns))) ∙ parted-words 46 (decimal i) (map decimal ns) a.0 a.1

pub token-back : (q : Token) → IsToken q → token_of (token_text q) ≡ Some q
unfolding token_of
token-back q is =
    let a = all-small q is.2 in
    let few = is.1 in
    let t : nat_le (length q) 3 ≡ true = grind (arith, nat_tests) in
    rw (token-parts q is.0 (decimals-without q a), smalls-back q a, t) refl

some-parts : (stop : ℕ) (w : List ℕ) (q : Token) → parted stop w ≡ map decimal q → 1 ≤ length q
some-parts stop w [] e = absurd (parted-some stop w e)
some-parts stop w (i ∷ ns) e = omega arith

pub token-said : (w : List ℕ) (q : Token) → token_of w ≡ Some q → (w ≡ token_text q) × IsToken q
unfolding token_of
token-said w q e = some-step ((w ≡ token_text q) × IsToken q) (smalls_of (parted 46 w)) _ q e (λ p i f.
    let k = where-is (nat_le (length p) 3) p q f in
    let t : nat_le (length p) 3 ≡ true = k.0 in
    let few : length p ≤ 3 = grind (arith, nat_tests) in
    let s = smalls-said (parted 46 w) p i in
    let text : w ≡ token_text p = sym (parts-join 46 w) ∙ ap (joined 46) s.0 ∙ token-joined p in
    subst (λ (x : Token). (w ≡ token_text x) × IsToken x) k.1 (text, (some-parts 46 w p s.0, few, s.1)))
