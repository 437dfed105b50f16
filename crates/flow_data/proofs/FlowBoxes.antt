-- Flows whose seams start their boxes in order, of any data: the boxes are apart, and each is open at some item.
use Rattle.std.proofs.Common.{◌≡◌, ℕ, zero, suc, ◌+◌, ◌<◌, ◌≤◌, List, [], ◌∷◌, ◌++◌, length, take, get_or, cond, not, Bool, true}
use Rattle.std.proofs.Common.{false, refl, sym, ap, ◌∙◌, subst, arith, add-one, All, ◌≢◌, inl, inr}
use Rattle.std.specs.Prelude.{filter, ◌==◌, ◌⊎◌, AllPairs, Contains, SomeIndex}
use Rattle.std.specs.List.{flat_map, AllByRecursion}
use Rattle.std.proofs.lemmas.Bool.{ne_eqb}
use Rattle.std.proofs.lemmas.List.Elements.{Contains-get_or, Contains-append_left, Contains-append_right, Contains-append_cases}
use Rattle.flow_data.specs.Data.{Flow, Item, Seam}
use Rattle.flow_data.specs.Flows.{started, ended, starts_in, ends_in, is_among, open_at, boxes_in}

-- these boxes have started before
abbrev pub Below : ℕ → List ℕ → Type 0
Below k boxes = AllByRecursion (λ b. b < k) boxes

pub below_more : (k m : ℕ) (boxes : List ℕ) → k ≤ m → Below k boxes → Below m boxes
below_more k m [] le h = tt
below_more k m (b ∷ boxes) le h = let lt = h.0 in (omega arith, below_more k m boxes le h.1)

-- these numbers ascend, from low on and below high
abbrev pub Ascends : ℕ → ℕ → List ℕ → Type 0
Ascends low high [] = low ≤ high
Ascends low high (b ∷ bs) = (low ≤ b) × Ascends (suc b) high bs

pub ascends_from : (low low' high : ℕ) (bs : List ℕ) → low ≤ low' → Ascends low' high bs → Ascends low high bs
ascends_from low low' high [] le h = omega arith
ascends_from low low' high (b ∷ bs) le h = let from = h.0 in (omega arith, h.1)

pub ascends_on : (low mid high : ℕ) (xs bs : List ℕ) → Ascends low mid xs → Ascends mid high bs → Ascends low high (xs ++ bs)
ascends_on low mid high [] bs h k = ascends_from low mid high bs h k
ascends_on low mid high (a ∷ xs) bs h k = (h.0, ascends_on (suc a) mid high xs bs h.1 k)

pub ascends_up : (low high : ℕ) (bs : List ℕ) → Ascends low high bs → low ≤ high
ascends_up low high [] h = h
ascends_up low high (b ∷ bs) h = let from = h.0 in let up = ascends_up (suc b) high bs h.1 in omega arith

pub ascends_at : (low high : ℕ) (bs : List ℕ) → Ascends low high bs → (i d : ℕ) → i < length bs
    → (low ≤ get_or bs i d) × (get_or bs i d < high)
ascends_at low high [] h i d lt = absurd (omega arith)
ascends_at low high (b ∷ bs) h zero d lt = let up = ascends_up (suc b) high bs h.1 in (h.0, omega arith)
ascends_at low high (b ∷ bs) h (suc i) d lt = let from = h.0 in let at = ascends_at (suc b) high bs h.1 i d (omega arith)
    in let low_at = at.0 in (omega arith, at.1)

pub ascending : (low high : ℕ) (bs : List ℕ) → Ascends low high bs → (i j d : ℕ) → i < j → j < length bs
    → get_or bs i d < get_or bs j d
ascending low high [] h i j d lt within = absurd (omega arith)
ascending low high (b ∷ bs) h i zero d lt within = absurd (omega arith)
ascending low high (b ∷ bs) h zero (suc j) d lt within = let at = ascends_at (suc b) high bs h.1 j d (omega arith)
    in let from = at.0 in omega arith
ascending low high (b ∷ bs) h (suc i) (suc j) d lt within = ascending (suc b) high bs h.1 i j d (omega arith) (omega arith)

-- A seam ends boxes below mid, and starts some from mid on, below next; where it starts one, a further seam follows.
pub record IsOrdered (low mid next : ℕ) (s : Seam) (later : List Seam) : Type 0 where
  pub from : low ≤ mid
  pub ends : Below mid (flat_map ended s.tail)
  pub starts : Ascends mid next (flat_map started s.head)
  pub item : (flat_map started s.head ≡ []) ⊎ (0 < length later)

abbrev pub AreOrdered : ℕ → ℕ → List Seam → Type 0
AreOrdered low high [] = low ≤ high
AreOrdered low high (s ∷ later) = (mid : ℕ) × (next : ℕ) × IsOrdered low mid next s later × AreOrdered next high later

-- ---- boxes in order are apart, and open at some item

pub starts_ascend : (low high : ℕ) (seams : List Seam) → AreOrdered low high seams → Ascends low high (starts_in seams)
starts_ascend low high [] o = o
starts_ascend low high (s ∷ later) o =
    ascends_from low o.0 high (starts_in (s ∷ later)) o.2.from
    (ascends_on o.0 o.1 high (flat_map started s.head) (starts_in later) o.2.starts (starts_ascend o.1 high later o.3))

pub none_among : (k b : ℕ) (xs bs : List ℕ) → Below k xs → k ≤ b → is_among bs b ≡ false → is_among (xs ++ bs) b ≡ false
none_among k b [] bs h le out = out
none_among k b (a ∷ xs) bs h le out =
    let lt = h.0 in
    let apart : (a == b) ≡ false = ne_eqb a b (λ e. omega arith) in
    rw apart (none_among k b xs bs h.1 le out)

pub contained_from : (low high b : ℕ) (bs : List ℕ) → Ascends low high bs → Contains bs b → low ≤ b
contained_from low high b bs h c = let at = ascends_at low high bs h c.0 b c.1 in let from = at.0 in rw c.2 at from

pub not_in_none : (b : ℕ) (bs : List ℕ) → bs ≡ [] → Contains bs b → ⊥
not_in_none b [] e c = let lt = c.1 in omega arith
not_in_none b (x ∷ bs) e c = cc

-- the box b is open at item i
pub record IsOpenAt (seams : List Seam) (b i : ℕ) : Type 0 where
  pub within : suc i < length seams
  pub begun : Contains (starts_in (take (suc i) seams)) b
  pub ending : is_among (ends_in (take (suc i) seams)) b ≡ false

pub open_somewhere : (low high : ℕ) (seams : List Seam) → AreOrdered low high seams → (b : ℕ) → Contains (starts_in seams) b
    → (i : ℕ) × IsOpenAt seams b i
open_somewhere low high [] o b c = absurd (let lt = c.1 in omega arith)
open_somewhere low high (s ∷ later) o b c =
    go (λ k. open_somewhere o.1 high later o.3 b k) (Contains-append_cases (flat_map started s.head) (starts_in later) b c)
  where
    here : Contains (flat_map started s.head) b → (flat_map started s.head ≡ []) ⊎ (0 < length later)
        → (i : ℕ) × IsOpenAt (s ∷ later) b i
    here c (inl none) = absurd (not_in_none b (flat_map started s.head) none c)
    here c (inr some) = (
      0,
      record {
        within = omega arith;
        begun = Contains-append_left (flat_map started s.head) [] b c;
        ending = none_among o.0 b (flat_map ended s.tail) [] o.2.ends
            (contained_from o.0 o.1 b (flat_map started s.head) o.2.starts c) refl;
      },
    )

    go : (Contains (starts_in later) b → (i : ℕ) × IsOpenAt later b i)
        → Contains (flat_map started s.head) b ⊎ Contains (starts_in later) b → (i : ℕ) × IsOpenAt (s ∷ later) b i
    go again (inl c) = here c o.2.item
    go again (inr c) =
        let r = again c in
        let lt = r.1.within in
        let up = ascends_up o.0 o.1 (flat_map started s.head) o.2.starts in
        let from = contained_from o.1 high b (starts_in later) (starts_ascend o.1 high later o.3) c in (
          suc r.0,
          record {
            within = omega arith;
            begun = Contains-append_right (flat_map started s.head) (starts_in (take (suc r.0) later)) b r.1.begun;
            ending = none_among o.0 b (flat_map ended s.tail) (ends_in (take (suc r.0) later)) o.2.ends (omega arith) r.1.ending;
          },
        )

pub contained_filter : (p : ℕ → Bool) (xs : List ℕ) (b : ℕ) → p b ≡ true → Contains xs b → Contains (filter p xs) b
contained_filter p [] b is c = absurd (let lt = c.1 in omega arith)
contained_filter p (x ∷ xs) b is c = by_place (contained_filter p xs b is) c.0 c.1 c.2
  where
    kept : (v : Bool) → Contains (filter p xs) b → Contains (cond v (x ∷ filter p xs) (filter p xs)) b
    kept true r = let lt = r.1 in (suc r.0, omega arith, r.2)
    kept false r = r

    by_place : (Contains xs b → Contains (filter p xs) b) → (k : ℕ) → k < length (x ∷ xs) → get_or (x ∷ xs) k b ≡ b
        → Contains (filter p (x ∷ xs)) b
    by_place again zero lt same = let passes : p x ≡ true = ap p same ∙ is in rw passes (0, omega arith, same)
    by_place again (suc k) lt same = kept (p x) (again (k, omega arith, same))

abbrev pub flow_from : List ℕ → List Item → List Seam → Flow
flow_from opened items seams = record { opened = opened; items = items; seams = seams }

pub open_at_item : (opened : List ℕ) (items : List Item) (seams : List Seam) (b i : ℕ) → IsOpenAt seams b i
    → Contains (open_at (flow_from opened items seams) i) b
open_at_item opened items seams b i h =
    rw add-one (contained_filter (λ c. not (is_among (ends_in (take (suc i) seams)) c)) (opened ++ starts_in (take (suc i) seams))
    b (ap not h.ending) (Contains-append_right opened (starts_in (take (suc i) seams)) b h.begun))

-- where no box ends before the first item, those that were open are open at it
pub open_at_first : (opened : List ℕ) (items : List Item) (first : Seam) (seams : List Seam) (b : ℕ)
    → flat_map ended first.tail ≡ [] → Contains opened b → Contains (open_at (flow_from opened items (first ∷ seams)) 0) b
open_at_first opened items first seams b none h =
    contained_filter (λ c. not (is_among (ends_in (take 1 (first ∷ seams))) c)) (opened ++ starts_in (take 1 (first ∷ seams))) b
    (subst (λ (ends : List ℕ). not (is_among (ends ++ []) b) ≡ true) (sym none) refl)
    (Contains-append_left opened (starts_in (take 1 (first ∷ seams))) b h)

-- what order says of a flow
pub record FlowBoxes (high : ℕ) (f : Flow) : Type 0 where
  pub boxes : All (λ b. b < high) (boxes_in f)
  pub distinct : AllPairs (λ a b. a ≢ b) (boxes_in f)
  pub filled : All (λ b. SomeIndex f.items (λ k. Contains (open_at f k) b)) (boxes_in f)

pub flow_boxes : (opened : List ℕ) (items : List Item) (first : Seam) (seams : List Seam) (low high : ℕ)
    → length (first ∷ seams) ≡ length items + 1 → 0 < length items → flat_map ended first.tail ≡ []
    → Ascends 0 low opened → AreOrdered low high (first ∷ seams) → FlowBoxes high (flow_from opened items (first ∷ seams))
flow_boxes opened items first seams low high count some none before o = record {
  boxes = λ i e lt. (ascends_at 0 high (opened ++ starts_in (first ∷ seams)) up i e lt).1;
  distinct = λ i j e below lt same. let later = ascending 0 high (opened ++ starts_in (first ∷ seams)) up i j e below lt
      in omega arith;
  filled = λ i e lt. somewhere (get_or (opened ++ starts_in (first ∷ seams)) i e)
      (Contains-append_cases opened (starts_in (first ∷ seams)) (get_or (opened ++ starts_in (first ∷ seams)) i e)
      (Contains-get_or (opened ++ starts_in (first ∷ seams)) i e lt));
}
  where
    up : Ascends 0 high (opened ++ starts_in (first ∷ seams))
    up = ascends_on 0 low high opened (starts_in (first ∷ seams)) before (starts_ascend low high (first ∷ seams) o)

    somewhere : (b : ℕ) → Contains opened b ⊎ Contains (starts_in (first ∷ seams)) b
        → SomeIndex items (λ k. Contains (open_at (flow_from opened items (first ∷ seams)) k) b)
    somewhere b (inl c) = (0, some, open_at_first opened items first seams b none c)
    somewhere b (inr c) = let r = open_somewhere low high (first ∷ seams) o b c in let lt = r.1.within
        in (r.0, omega arith, open_at_item opened items (first ∷ seams) b r.0 r.1)
