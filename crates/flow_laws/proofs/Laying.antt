-- What laying edges keeps: a strip that reaches lower stays lower, and cloned edges are laid where boxes start and end.
use Rattle.std.proofs.Common.{◌≡◌, ℕ, suc, ◌+◌, ◌<◌, ◌≤◌, ◌==◌, max, Bool, true, false, cond, List, [], ◌∷◌, Option, Some, None}
use Rattle.std.proofs.Common.{refl, arith, sum_by, ◌⊎◌, inl, inr}
use Rattle.std.specs.Prelude.{slice_get}
use Rattle.std.specs.List.{flat_map}
use Rattle.std.proofs.lemmas.Bool.Decides.{nat_tests}
use Rattle.std.proofs.lemmas.Bool.{cases_lt}
use Rattle.std.proofs.lemmas.List.Sums.{sum_by-cons}
use Rattle.flow_list.specs.Data.{Edge, Margin, Solid, Wall, Start, End}
use Rattle.flow_data.specs.Flows.{started, ended}
use Rattle.flow_list.specs.Strip.{Strip, strip_at, put, lay, lay_all}

-- ---- a strip never goes back

pub put-rises : (s : Strip) (a : ℕ) → s.y + a ≤ (put s a).y
put-rises s a = grind (arith, nat_tests)

pub lay-rises : (s : Strip) (e : Edge) → s.y ≤ (lay s e).y
lay-rises s (Margin m) = omega arith
lay-rises s (Solid a) = let e = put-rises s a in omega arith
lay-rises s Wall = omega arith
lay-rises s (Start b) = omega arith
lay-rises s (End b) = omega arith

pub lay_all-rises : (s : Strip) (es : List Edge) → s.y ≤ (lay_all s es).y
lay_all-rises s [] = omega arith
lay_all-rises s (e ∷ es) = let a = lay-rises s e in let b = lay_all-rises (lay s e) es in omega arith

-- ---- a strip that reaches lower, and drops margins where the other one does

pub record IsLower (s t : Strip) : Type 0 where
  pub y : s.y ≤ t.y
  pub reach : s.y + s.pending ≤ t.y + t.pending
  pub drops : t.drops ≡ true → s.drops ≡ true

margin-lower : (b c : Bool) (y p z q m : ℕ) → (c ≡ true → b ≡ true) → y ≤ z → y + p ≤ z + q
    → y + cond b p (max p m) ≤ z + cond c q (max q m)
margin-lower true true y p z q m d a r = omega arith
margin-lower true false y p z q m d a r = omega arith
margin-lower false true y p z q m d a r = let x : false ≡ true = d refl in cc
margin-lower false false y p z q m d a r = omega arith

put-lower-by : (b : Bool) (s t : Strip) (a : ℕ) → (b ≡ false → 0 < a) → IsLower s t →
    IsLower (record { y = cond b s.y (s.y + s.pending + a); pending = cond b s.pending 0; drops = cond b s.drops false })
    (record { y = cond b t.y (t.y + t.pending + a); pending = cond b t.pending 0; drops = cond b t.drops false })
put-lower-by true s t a p h = h
put-lower-by false s t a p h =
    record { y = let r = h.reach in omega arith; reach = let r = h.reach in omega arith; drops = λ e. cc }

pub put-lower : (s t : Strip) (a : ℕ) → IsLower s t → IsLower (put s a) (put t a)
put-lower s t a h = put-lower-by (a == 0) s t a (λ e. grind (arith, nat_tests)) h

pub lay-lower : (s t : Strip) (e : Edge) → IsLower s t → IsLower (lay s e) (lay t e)
lay-lower s t (Margin m) h = record
    { y = h.y; reach = margin-lower s.drops t.drops s.y s.pending t.y t.pending m h.drops h.y h.reach; drops = h.drops }
lay-lower s t (Solid a) h = put-lower s t a h
lay-lower s t Wall h = record { y = h.reach; reach = let r = h.reach in omega arith; drops = λ e. cc }
lay-lower s t (Start b) h = h
lay-lower s t (End b) h = h

pub lay_all-lower : (s t : Strip) (es : List Edge) → IsLower s t → IsLower (lay_all s es) (lay_all t es)
lay_all-lower s t [] h = h
lay_all-lower s t (e ∷ es) h = lay_all-lower (lay s e) (lay t e) es (lay-lower s t e h)

pub starts-lower : (y : ℕ) (t : Strip) → y ≤ t.y → IsLower (strip_at y true) t
starts-lower y t le = record { y = le; reach = omega arith; drops = λ e. refl }

-- ---- the cloned edges of boxes that start in a head

-- each start whose box has an upper cloned edge has it directly after it
abbrev pub TopsFollow : (ℕ → ℕ) → List Edge → Type 0
TopsFollow top es = (k b : ℕ) → slice_get es k ≡ Some (Start b) → 0 < top b → slice_get es (suc k) ≡ Some (Solid (top b))

follow-rest : (top : ℕ → ℕ) (e : Edge) (es : List Edge) → TopsFollow top (e ∷ es) → TopsFollow top es
follow-rest top e es h = λ k b is some. h (suc k) b is some

-- this is owed to the strip: nothing, or what the first edge is
pub Owed : ℕ → List Edge → Type 0
Owed owed es = (owed ≡ 0) ⊎ (slice_get es 0 ≡ Some (Solid owed))

owes : (top : ℕ → ℕ) (b : ℕ) (es : List Edge) → TopsFollow top (Start b ∷ es) → Owed (top b) es
unfolding Owed
owes top b es h = which (cases_lt 0 (top b))
  where
    which : (0 < top b) ⊎ (top b ≤ 0) → (top b ≡ 0) ⊎ (slice_get es 0 ≡ Some (Solid (top b)))
    which (inl some) = inr (h 0 b refl some)
    which (inr none) = inl (omega arith)

head-owed : (top : ℕ → ℕ) (owed : ℕ) (s : Strip) (es : List Edge) → TopsFollow top es → Owed owed es
    → s.y + owed + sum_by top (flat_map started es) ≤ (lay_all s es).y
unfolding Owed
head-owed top owed s [] h (inl none) = omega arith
head-owed top owed s [] h (inr is) = cc
head-owed top owed s (Margin m ∷ es) h (inl none) =
    let e = head-owed top 0 (lay s (Margin m)) es (follow-rest top (Margin m) es h) (inl refl) in omega arith
head-owed top owed s (Margin m ∷ es) h (inr is) = cc
head-owed top owed s (Solid a ∷ es) h (inl none) =
    let e = head-owed top 0 (put s a) es (follow-rest top (Solid a) es h) (inl refl) in let r = put-rises s a in omega arith
head-owed top owed s (Solid a ∷ es) h (inr is) =
    let same : a ≡ owed = cc in
    let e = head-owed top 0 (put s a) es (follow-rest top (Solid a) es h) (inl refl) in
    let r = put-rises s a in
    omega arith
head-owed top owed s (Wall ∷ es) h (inl none) = let e = head-owed top 0 (lay s Wall) es (follow-rest top Wall es h) (inl refl)
    in omega arith
head-owed top owed s (Wall ∷ es) h (inr is) = cc
head-owed top owed s (Start b ∷ es) h (inl none) =
    let e = head-owed top (top b) s es (follow-rest top (Start b) es h) (owes top b es h) in
    omega (arith, sum_by-cons top b (flat_map started es))
head-owed top owed s (Start b ∷ es) h (inr is) = cc
head-owed top owed s (End b ∷ es) h (inl none) = let e = head-owed top 0 s es (follow-rest top (End b) es h) (inl refl)
    in omega arith
head-owed top owed s (End b ∷ es) h (inr is) = cc

-- a head lays at least the upper cloned edges of the boxes that start in it
pub head-lays : (top : ℕ → ℕ) (s : Strip) (es : List Edge) → TopsFollow top es
    → s.y + sum_by top (flat_map started es) ≤ (lay_all s es).y
unfolding Owed
head-lays top s es h = let e = head-owed top 0 s es h (inl refl) in omega arith

-- ---- the cloned edges of boxes that end in a tail

-- each end whose box has a lower cloned edge has it directly before it, at the first place the edge before these
abbrev pub BottomsPrecede : (ℕ → ℕ) → Option Edge → List Edge → Type 0
BottomsPrecede bottom before es = ((b : ℕ) → slice_get es 0 ≡ Some (End b) → 0 < bottom b → before ≡ Some (Solid (bottom b)))
    × ((k b : ℕ) → slice_get es (suc k) ≡ Some (End b) → 0 < bottom b → slice_get es k ≡ Some (Solid (bottom b)))

precede-rest : (bottom : ℕ → ℕ) (before : Option Edge) (e : Edge) (es : List Edge) → BottomsPrecede bottom before (e ∷ es)
    → BottomsPrecede bottom (Some e) es
precede-rest bottom before e es h = (λ b is some. h.1 0 b is some, λ k b is some. h.1 (suc k) b is some)

-- the strip has what the edge before these laid, on top of a base
pub Paid : Option Edge → ℕ → Strip → Type 0
Paid before base s = (base ≤ s.y) × ((a : ℕ) → before ≡ Some (Solid a) → base + a ≤ s.y)

tail-paid : (bottom : ℕ → ℕ) (before : Option Edge) (base : ℕ) (s : Strip) (es : List Edge) → BottomsPrecede bottom before es
    → Paid before base s → base + sum_by bottom (flat_map ended es) ≤ (lay_all s es).y
unfolding Paid
tail-paid bottom before base s [] h p = let l = p.0 in omega arith
tail-paid bottom before base s (Margin m ∷ es) h p =
    tail-paid bottom (Some (Margin m)) base (lay s (Margin m)) es (precede-rest bottom before (Margin m) es h) (p.0, λ a e. cc)
tail-paid bottom before base s (Solid a ∷ es) h p =
    let l = p.0 in
    let r = put-rises s a in
    tail-paid bottom (Some (Solid a)) base (put s a) es (precede-rest bottom before (Solid a) es h)
    (omega arith, λ c e. let same : a ≡ c = cc in omega arith)
tail-paid bottom before base s (Wall ∷ es) h p = let l = p.0
    in tail-paid bottom (Some Wall) base (lay s Wall) es (precede-rest bottom before Wall es h) (omega arith, λ a e. cc)
tail-paid bottom before base s (Start b ∷ es) h p =
    tail-paid bottom (Some (Start b)) base s es (precede-rest bottom before (Start b) es h) (p.0, λ a e. cc)
tail-paid bottom before base s (End b ∷ es) h p =
    let e = tail-paid bottom (Some (End b)) (base + bottom b) s es (precede-rest bottom before (End b) es h)
    (enough (cases_lt 0 (bottom b)), λ a e. cc) in
    omega (arith, sum_by-cons bottom b (flat_map ended es))
  where
    enough : (0 < bottom b) ⊎ (bottom b ≤ 0) → base + bottom b ≤ s.y
    enough (inl some) = p.1 (bottom b) (h.0 b refl some)
    enough (inr none) = let l = p.0 in omega arith

-- a tail lays at least the lower cloned edges of the boxes that end in it
pub tail-lays : (bottom : ℕ → ℕ) (s : Strip) (es : List Edge) → BottomsPrecede bottom None es
    → s.y + sum_by bottom (flat_map ended es) ≤ (lay_all s es).y
unfolding Paid
tail-lays bottom s es h = tail-paid bottom None s.y s es h (omega arith, λ a e. cc)
