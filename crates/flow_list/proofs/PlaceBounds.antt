-- What is placed in a column stands no lower than all that is laid there reaches together, a row with its own height.
use Rattle.std.proofs.Common.{ℕ, zero, suc, ◌+◌, ◌≤◌, ◌≡◌, Bool, true, false, cond, List, [], ◌∷◌, ◌++◌, refl, arith, sum_by}
use Rattle.std.specs.List.{AllByRecursion as Each}
use Rattle.std.proofs.lemmas.List.Sums.{sum_by-cons, sum_by-append}
use Rattle.flow_list.specs.Placing.{RowLaid, Laid, margin, solid, wall, opens, closes, atom, row, ends_gap, gap_of, behind_gap}
use Rattle.flow_list.specs.Placing.{greatest_margin, opens_among, Placed, opens_at, closes_at, atom_at, row_at, placed_in_gap}
use Rattle.flow_list.specs.Placing.{gap_places, placed_item, laid_height, gap_height, places_from}
use Rattle.flow_list.specs.Fragments.{place_of}

-- what is so of each of two lists is so of both together
pub Each-append : {X : Type 0} (P : X → Type 0) (xs ys : List X) → Each P xs → Each P ys → Each P (xs ++ ys)
Each-append P [] ys a b = b
Each-append P (x ∷ xs) ys a b = (a.0, Each-append P xs ys a.1 b)

-- what something laid may move down what follows: its height, or its margin
abbrev pub laid_amount : Laid → ℕ
laid_amount (margin m) = m
laid_amount (solid a) = a
laid_amount wall = 0
laid_amount (opens b) = 0
laid_amount (closes b) = 0
laid_amount (atom k height) = height
laid_amount (row r) = r.height

-- something laid is so, and its share is no less than its height or margin
abbrev pub HasShare : (Laid → ℕ) → (RowLaid → Type 0) → Laid → Type 0
HasShare share So (margin m) = m ≤ share (margin m)
HasShare share So (solid a) = a ≤ share (solid a)
HasShare share So wall = Unit {0}
HasShare share So (opens b) = Unit {0}
HasShare share So (closes b) = Unit {0}
HasShare share So (atom k height) = height ≤ share (atom k height)
HasShare share So (row r) = (r.height ≤ share (row r)) × So r

-- something placed stands no lower than this, a row together with its share, which is no less than its height
abbrev pub IsNoLower : (Laid → ℕ) → (RowLaid → Type 0) → ℕ → Placed → Type 0
IsNoLower share So bottom (opens_at b y starts) = y ≤ bottom
IsNoLower share So bottom (closes_at b y) = y ≤ bottom
IsNoLower share So bottom (atom_at k y) = y ≤ bottom
IsNoLower share So bottom (row_at r y) = (r.height ≤ share (row r)) × (y + share (row r) ≤ bottom) × So r

module _ (share : Laid → ℕ) (So : RowLaid → Type 0) where
  greatest-le : (xs : List Laid) → Each (HasShare share So) xs → greatest_margin xs ≤ sum_by share xs
  greatest-le [] all = omega arith
  greatest-le (margin m ∷ xs) all = let h = all.0 in omega (arith, greatest-le xs all.1, sum_by-cons share (margin m) xs)
  greatest-le (solid a ∷ xs) all = omega (arith, greatest-le xs all.1, sum_by-cons share (solid a) xs)
  greatest-le (wall ∷ xs) all = omega (arith, greatest-le xs all.1, sum_by-cons share wall xs)
  greatest-le (opens b ∷ xs) all = omega (arith, greatest-le xs all.1, sum_by-cons share (opens b) xs)
  greatest-le (closes b ∷ xs) all = omega (arith, greatest-le xs all.1, sum_by-cons share (closes b) xs)
  greatest-le (atom k height ∷ xs) all = omega (arith, greatest-le xs all.1, sum_by-cons share (atom k height) xs)
  greatest-le (row r ∷ xs) all = omega (arith, greatest-le xs all.1, sum_by-cons share (row r) xs)

  split-sum : (xs : List Laid) → sum_by share (gap_of xs) + sum_by share (behind_gap xs) ≡ sum_by share xs
  split-sum [] = refl
  split-sum (x ∷ xs) = go (split-sum xs) (ends_gap x)
    where
      go : sum_by share (gap_of xs) + sum_by share (behind_gap xs) ≡ sum_by share xs → (b : Bool)
          → sum_by share (cond b [] (x ∷ gap_of xs)) + sum_by share (cond b (x ∷ xs) (behind_gap xs)) ≡ sum_by share (x ∷ xs)
      go rest true = omega arith
      go rest false = omega (arith, sum_by-cons share x (gap_of xs), sum_by-cons share x xs)

  split-gap : (xs : List Laid) → Each (HasShare share So) xs → Each (HasShare share So) (gap_of xs)
  split-gap [] all = tt
  split-gap (x ∷ xs) all = go (split-gap xs all.1) (ends_gap x)
    where
      go : Each (HasShare share So) (gap_of xs) → (b : Bool) → Each (HasShare share So) (cond b [] (x ∷ gap_of xs))
      go rest true = tt
      go rest false = (all.0, rest)

  split-behind : (xs : List Laid) → Each (HasShare share So) xs → Each (HasShare share So) (behind_gap xs)
  split-behind [] all = tt
  split-behind (x ∷ xs) all = go (split-behind xs all.1) (ends_gap x)
    where
      go : Each (HasShare share So) (behind_gap xs) → (b : Bool) → Each (HasShare share So) (cond b (x ∷ xs) (behind_gap xs))
      go rest true = all
      go rest false = rest

  placed-le : (y end bottom : ℕ) (before : List Laid) (x : Laid) → y ≤ end → end ≤ bottom
      → y + greatest_margin before + share x ≤ bottom → HasShare share So x
      → Each (IsNoLower share So bottom) (placed_in_gap y end before x)
  placed-le y end bottom before (margin m) a b c h = tt
  placed-le y end bottom before (solid m) a b c h = tt
  placed-le y end bottom before wall a b c h = tt
  placed-le y end bottom before (opens k) a b c h = (b, tt)
  placed-le y end bottom before (closes k) a b c h = (go (opens_among k before), tt)
    where
      go : (s : Bool) → cond s end y ≤ bottom
      go true = b
      go false = omega arith
  placed-le y end bottom before (atom k height) a b c h = (b, tt)
  placed-le y end bottom before (row r) a b c h = ((h.0, c, h.1), tt)

  gap-le : (y end bottom : ℕ) (before gap : List Laid) → y ≤ end → end ≤ bottom
      → y + sum_by share before + sum_by share gap ≤ bottom → Each (HasShare share So) before → Each (HasShare share So) gap
      → Each (IsNoLower share So bottom) (gap_places y end before gap)
  gap-le y end bottom before [] a b c l g = tt
  gap-le y end bottom before (x ∷ xs) a b c l g =
      let s = sum_by-cons share x xs in
      let m = greatest-le before l in
      let p = sum_by-append share before (x ∷ []) in
      let o = sum_by-cons share x [] in
      Each-append (IsNoLower share So bottom) (placed_in_gap y end before x) (gap_places y end (before ++ x ∷ []) xs)
      (placed-le y end bottom before x a b (omega arith) g.0)
      (gap-le y end bottom (before ++ x ∷ []) xs a b (omega arith)
      (Each-append (HasShare share So) before (x ∷ []) l (g.0, tt)) g.1)

  item-le : (y bottom : ℕ) (x : Laid) → y + share x ≤ bottom → HasShare share So x
      → Each (IsNoLower share So bottom) (placed_item y x)
  item-le y bottom (margin m) a h = tt
  item-le y bottom (solid m) a h = tt
  item-le y bottom wall a h = tt
  item-le y bottom (opens b) a h = tt
  item-le y bottom (closes b) a h = tt
  item-le y bottom (atom k height) a h = (omega arith, tt)
  item-le y bottom (row r) a h = ((h.0, a, h.1), tt)

  height-le : (x : Laid) → HasShare share So x → laid_height x ≤ share x
  height-le (margin m) h = omega arith
  height-le (solid m) h = h
  height-le wall h = omega arith
  height-le (opens b) h = omega arith
  height-le (closes b) h = omega arith
  height-le (atom k height) h = h
  height-le (row r) h = h.0

  -- What is laid from y on, with these shares, is placed no lower than y and all shares together.
  pub places-le : (n y bottom : ℕ) (xs : List Laid) → Each (HasShare share So) xs → y + sum_by share xs ≤ bottom
      → Each (IsNoLower share So bottom) (places_from n y xs)
  unfolding places_from
  places-le zero y bottom xs all le = tt
  places-le (suc n) y bottom xs all le =
      let sums = split-sum xs in
      let gap = split-gap xs all in
      let behind = split-behind xs all in
      let high = height (behind_gap xs) in
      Each-append (IsNoLower share So bottom) (gap_places y (y + gap_height (gap_of xs) (behind_gap xs)) [] (gap_of xs)) _
      (gap-le y (y + gap_height (gap_of xs) (behind_gap xs)) bottom [] (gap_of xs) (omega arith) (omega arith) (omega arith) tt
      gap) (rest (behind_gap xs) behind (y + gap_height (gap_of xs) (behind_gap xs)) (omega arith)
      (λ z later each low. places-le n z bottom later each low))
    where
      height : (later : List Laid) → gap_height (gap_of xs) later ≤ sum_by share (gap_of xs)
      height [] = omega arith
      height (x ∷ later) = greatest-le (gap_of xs) (split-gap xs all)

      rest : (later : List Laid) → Each (HasShare share So) later → (end : ℕ) → end + sum_by share later ≤ bottom →
          ((z : ℕ) (ys : List Laid) → Each (HasShare share So) ys → z + sum_by share ys ≤ bottom
          → Each (IsNoLower share So bottom) (places_from n z ys))
          → Each (IsNoLower share So bottom)
          (elim later [ [] ↦ [] | x ∷ more ↦ placed_item end x ++ places_from n (end + laid_height x) more ])
      rest [] each end low again = tt
      rest (x ∷ more) each end low again =
          let s = sum_by-cons share x more in
          let h = height-le x each.0 in
          Each-append (IsNoLower share So bottom) (placed_item end x) (places_from n (end + laid_height x) more)
          (item-le end bottom x (omega arith) each.0) (again (end + laid_height x) more each.1 (omega arith))

-- ---- heights and margins alone

no-so : RowLaid → Type 0
no-so r = Unit {0}

amounts-share : (xs : List Laid) → Each (HasShare laid_amount no-so) xs
unfolding no-so
amounts-share [] = tt
amounts-share (margin m ∷ xs) = (omega arith, amounts-share xs)
amounts-share (solid a ∷ xs) = (omega arith, amounts-share xs)
amounts-share (wall ∷ xs) = (tt, amounts-share xs)
amounts-share (opens b ∷ xs) = (tt, amounts-share xs)
amounts-share (closes b ∷ xs) = (tt, amounts-share xs)
amounts-share (atom k height ∷ xs) = (omega arith, amounts-share xs)
amounts-share (row r ∷ xs) = ((omega arith, tt), amounts-share xs)

only-places : (bottom : ℕ) (ps : List Placed) → Each (IsNoLower laid_amount no-so bottom) ps → Each (λ p. place_of p ≤ bottom) ps
only-places bottom [] all = tt
only-places bottom (opens_at b y starts ∷ ps) all = (all.0, only-places bottom ps all.1)
only-places bottom (closes_at b y ∷ ps) all = (all.0, only-places bottom ps all.1)
only-places bottom (atom_at k y ∷ ps) all = (all.0, only-places bottom ps all.1)
only-places bottom (row_at r y ∷ ps) all = (let a = all.0.1 in omega arith, only-places bottom ps all.1)

-- Each place is at most where the laying begins and the heights and margins of all that is laid.
pub places-within : (n y : ℕ) (xs : List Laid) → Each (λ p. place_of p ≤ y + sum_by laid_amount xs) (places_from n y xs)
places-within n y xs = only-places (y + sum_by laid_amount xs) (places_from n y xs)
    (places-le laid_amount no-so n y (y + sum_by laid_amount xs) xs (amounts-share xs) (omega arith))
