-- What is laid in a flow names boxes that there are and items of the flow, and so does what is placed there.
use Rattle.std.proofs.Common.{◌≡◌, ℕ, zero, suc, ◌+◌, ◌-◌, ◌<◌, ◌≤◌, ◌==◌, ◌||◌, ◌&&◌, Bool, true, false, cond, not, List, []}
use Rattle.std.proofs.Common.{◌∷◌, ◌++◌, length, get_or, Option, Some, None, refl, sym, subst, arith, ◌⊎◌, inl, inr, All}
use Rattle.std.specs.List.{AllByRecursion as Each, flat_map}
use Rattle.std.proofs.lemmas.Bool.{cases_lt}
use Rattle.std.proofs.lemmas.List.{get_or_past}
use Rattle.flow_list.specs.Data.{Bound, Edge, Flow, FlowsData, Item, Seam, Margin, Solid, Wall, Start, End, Atom, Row}
use Rattle.flow_data.specs.Flows.{box_of, item_of, seam_of, no_seam, started, open_at}
use Rattle.flow_data.specs.Soundness.{IsSoundFlow}
use Rattle.flow_data.proofs.BoxSums.{open_at-le}
use Rattle.flow_data.proofs.OpenBoxes.{has-count, in-range, opened-known, starts-known}
use Rattle.flow_list.specs.ClonedEdges.{open_across, tops}
use Rattle.flow_list.specs.Tokens.{Token, row_start, item_number, within}
use Rattle.flow_list.specs.Strip.{Strip, strip_at, put, lay, lay_all, begins}
use Rattle.flow_list.specs.Column.{Inner, Step, height_of, is_forced, row_from, room, start_strip, strip_behind}
use Rattle.flow_list.specs.Stacks.{height_in_stack, stack_strip}
use Rattle.flow_list.specs.Placing.{Laid, margin, solid, wall, opens, closes, atom, row, laid_edge, laid_edges, ends_gap}
use Rattle.flow_list.specs.Placing.{gap_of, behind_gap, gap_height, Placed, opens_at, closes_at, atom_at, row_at, placed_in_gap}
use Rattle.flow_list.specs.Placing.{gap_places, placed_item, laid_height, places_from}
use Rattle.flow_list.specs.Fragments.{laid_item, laid_items, laid_start, laid_before, laid_filled}
use Rattle.flow_list.specs.Fragments.{filled_row, laid_to, strip_after}
use Rattle.flow_list.specs.Fragments.{strip_filled, fills_item, continuing, continued_from, stop_of, column_made, places_in}
use Rattle.flow_list.specs.Fragments.{laid_in_stack, stack_laid}
use Rattle.flow_list.proofs.ColumnParts.{OfStop}
use Rattle.flow_list.proofs.OpenAcross.{across-known}
use Rattle.flow_list.proofs.PlaceBounds.{Each-append}
use Rattle.flow_laws.proofs.FillEnds.{IsStepFrom, stop-from}
use Rattle.flow_laws.proofs.HoldingEnds.{EndsAtSeam, EndsInRow, EndsFor, column-ends}
use Rattle.flow_laws.proofs.LaidSums.{IsRowOf, item-known}

module _ (d : FlowsData) (f : Flow) where
  -- something laid names a box that there is or an item of the flow
  abbrev pub IsNamed : Laid → Type 0
  IsNamed (margin m) = Unit {0}
  IsNamed (solid a) = Unit {0}
  IsNamed wall = Unit {0}
  IsNamed (opens b) = b < length d.boxes
  IsNamed (closes b) = Unit {0}
  IsNamed (atom k height) = k < length f.items
  IsNamed (row r) = IsRowOf f r

  -- something placed does
  abbrev pub IsNamedAt : Placed → Type 0
  IsNamedAt (opens_at b y starts) = b < length d.boxes
  IsNamedAt (closes_at b y) = Unit {0}
  IsNamedAt (atom_at k y) = k < length f.items
  IsNamedAt (row_at r y) = IsRowOf f r

  -- ---- from what is laid to what is placed

  in-gap : (y end : ℕ) (before : List Laid) (x : Laid) → IsNamed x → Each IsNamedAt (placed_in_gap y end before x)
  in-gap y end before (margin m) h = tt
  in-gap y end before (solid m) h = tt
  in-gap y end before wall h = tt
  in-gap y end before (opens b) h = (h, tt)
  in-gap y end before (closes b) h = (tt, tt)
  in-gap y end before (atom k height) h = (h, tt)
  in-gap y end before (row r) h = (h, tt)

  in-gaps : (y end : ℕ) (before gap : List Laid) → Each IsNamed gap → Each IsNamedAt (gap_places y end before gap)
  in-gaps y end before [] all = tt
  in-gaps y end before (x ∷ xs) all = Each-append IsNamedAt (placed_in_gap y end before x) (gap_places y end (before
      ++ x ∷ []) xs)
      (in-gap y end before x all.0) (in-gaps y end (before ++ x ∷ []) xs all.1)

  in-item : (y : ℕ) (x : Laid) → IsNamed x → Each IsNamedAt (placed_item y x)
  in-item y (margin m) h = tt
  in-item y (solid m) h = tt
  in-item y wall h = tt
  in-item y (opens b) h = tt
  in-item y (closes b) h = tt
  in-item y (atom k height) h = (h, tt)
  in-item y (row r) h = (h, tt)

  in-first : (xs : List Laid) → Each IsNamed xs → Each IsNamed (gap_of xs)
  in-first [] all = tt
  in-first (x ∷ xs) all = go (ends_gap x) (in-first xs all.1)
    where
      go : (b : Bool) → Each IsNamed (gap_of xs) → Each IsNamed (cond b [] (x ∷ gap_of xs))
      go true rest = tt
      go false rest = (all.0, rest)

  in-rest : (xs : List Laid) → Each IsNamed xs → Each IsNamed (behind_gap xs)
  in-rest [] all = tt
  in-rest (x ∷ xs) all = go (ends_gap x) (in-rest xs all.1)
    where
      go : (b : Bool) → Each IsNamed (behind_gap xs) → Each IsNamed (cond b (x ∷ xs) (behind_gap xs))
      go true rest = all
      go false rest = rest

  places-named : (n y : ℕ) (xs : List Laid) → Each IsNamed xs → Each IsNamedAt (places_from n y xs)
  unfolding places_from
  places-named zero y xs all = tt
  places-named (suc n) y xs all =
      Each-append IsNamedAt (gap_places y (y + gap_height (gap_of xs) (behind_gap xs)) [] (gap_of xs)) _
      (in-gaps y (y + gap_height (gap_of xs) (behind_gap xs)) [] (gap_of xs) (in-first xs all))
      (rest (behind_gap xs) (in-rest xs all) (y + gap_height (gap_of xs) (behind_gap xs))
      (λ z later each. places-named n z later each))
    where
      rest : (later : List Laid) → Each IsNamed later → (end : ℕ)
          → ((z : ℕ) (ys : List Laid) → Each IsNamed ys → Each IsNamedAt (places_from n z ys)) →
          Each IsNamedAt (elim later [ [] ↦ [] | x ∷ more ↦ placed_item end x ++ places_from n (end + laid_height x) more ])
      rest [] each end again = tt
      rest (x ∷ more) each end again =
          Each-append IsNamedAt (placed_item end x) (places_from n (end + laid_height x) more) (in-item end x each.0)
          (again (end + laid_height x) more each.1)

  continued-named : (y : ℕ) (boxes : List ℕ) → All (λ b. b < length d.boxes) boxes → Each IsNamedAt (continued_from d y boxes)
  continued-named y [] known = tt
  continued-named y (b ∷ boxes) known = (
    known 0 b (omega arith),
    continued-named (y + (box_of d b).top) boxes (λ k e lt. known (suc k) e (omega arith)),
  )

  -- ---- edges

  maybe-named : (b : Bool) (x : Laid) → IsNamed x → Each IsNamed (cond b [] (x ∷ []))
  maybe-named true x h = tt
  maybe-named false x h = (h, tt)

  edge-named : (s : Strip) (e : Edge) → All (λ b. b < length d.boxes) (started e) → Each IsNamed (laid_edge s e)
  edge-named s (Margin m) known = maybe-named s.drops (margin m) tt
  edge-named s (Solid a) known = maybe-named (a == 0) (solid a) tt
  edge-named s Wall known = (tt, tt)
  edge-named s (Start b) known = (known 0 b (omega arith), tt)
  edge-named s (End b) known = (tt, tt)

  edges-named : (s : Strip) (es : List Edge) → All (λ e. All (λ b. b < length d.boxes) (started e)) es
      → Each IsNamed (laid_edges s es)
  edges-named s [] known = tt
  edges-named s (e ∷ es) known =
      Each-append IsNamed (laid_edge s e) (laid_edges (lay s e) es) (edge-named s e (known 0 e (omega arith)))
      (edges-named (lay s e) es (λ k x lt. known (suc k) x (omega arith)))

  tail-named : (s : Strip) (es : List Edge) → flat_map started es ≡ [] → Each IsNamed (laid_edges s es)
  tail-named s [] none = tt
  tail-named s (Margin m ∷ es) none = Each-append IsNamed (laid_edge s (Margin m)) (laid_edges (lay s (Margin m)) es)
      (maybe-named s.drops (margin m) tt) (tail-named (lay s (Margin m)) es none)
  tail-named s (Solid a ∷ es) none = Each-append IsNamed (laid_edge s (Solid a)) (laid_edges (lay s (Solid a)) es)
      (maybe-named (a == 0) (solid a) tt) (tail-named (lay s (Solid a)) es none)
  tail-named s (Wall ∷ es) none = (tt, tail-named (lay s Wall) es none)
  tail-named s (Start b ∷ es) none = cc
  tail-named s (End b ∷ es) none = (tt, tail-named (lay s (End b)) es none)

  module _ (sound : IsSoundFlow d f) where
    heads-named : (s : Strip) (k : ℕ) → Each IsNamed (laid_edges s (seam_of f k).head)
    heads-named s k = go (cases_lt k (length f.seams))
      where
        go : (k < length f.seams) ⊎ (length f.seams ≤ k) → Each IsNamed (laid_edges s (seam_of f k).head)
        go (inl lt) = edges-named s (seam_of f k).head (starts-known d f sound k lt)
        go (inr ge) = let P : Seam → Type 0 = λ z. Each IsNamed (laid_edges s z.head)
            in subst P (sym (get_or_past f.seams k no_seam ge)) tt

    tails-named : (s : Strip) (k : ℕ) → Each IsNamed (laid_edges s (seam_of f k).tail)
    tails-named s k = go (cases_lt k (length f.seams))
      where
        go : (k < length f.seams) ⊎ (length f.seams ≤ k) → Each IsNamed (laid_edges s (seam_of f k).tail)
        go (inl lt) = tail-named s (seam_of f k).tail (sound.seams k no_seam lt).tail
        go (inr ge) = let P : Seam → Type 0 = λ z. Each IsNamed (laid_edges s z.tail)
            in subst P (sym (get_or_past f.seams k no_seam ge)) tt

    -- ---- what is laid in a column

    module _ (inner : Inner) where
      item-named : (k : ℕ) (q : Token) → k < length f.items → IsNamed (laid_item inner (item_of f k) k q)
      item-named k q lt = go (item_of f k) refl
        where
          go : (item : Item) → item_of f k ≡ item → IsNamed (laid_item inner item k q)
          go (Atom height kind) is = lt
          go (Row r) is = record { item = k; lt = lt; is = is }

      items-named : (s : Strip) (k : ℕ) (q : Token) (n : ℕ) → k + n ≤ length f.items → Each IsNamed (laid_items inner f s k q n)
      unfolding laid_items
      items-named s k q zero le = tt
      items-named s k q (suc zero) le = (
        item-named k q (omega arith),
        Each-append IsNamed (laid_edges (put s (height_of inner (item_of f k) q)) (seam_of f (k + 1)).tail) []
            (tails-named (put s (height_of inner (item_of f k) q)) (k + 1)) tt,
      )
      items-named s k q (suc (suc n)) le = (
        item-named k q (omega arith),
        Each-append IsNamed (laid_edges (put s (height_of inner (item_of f k) q)) (seam_of f (k + 1)).tail) _
            (tails-named (put s (height_of inner (item_of f k) q)) (k + 1))
            (Each-append IsNamed (laid_edges (strip_behind inner f s k q) (seam_of f (k + 1)).head) _
            (heads-named (strip_behind inner f s k q) (k + 1))
            (items-named (lay_all (strip_behind inner f s k q) (seam_of f (k + 1)).head) (k + 1) row_start (suc n)
            (omega arith))),
      )

      before-named : (s : Strip) (k : ℕ) (q : Token) (n : ℕ) → k + n ≤ length f.items
          → Each IsNamed (laid_before inner f s k q n)
      before-named s k q zero le = tt
      before-named s k q (suc n) le = Each-append IsNamed (laid_items inner f s k q (suc n)) _ (items-named s k q (suc n) le)
          (heads-named (strip_after inner f s k q (suc n)) (k + suc n))

      row-named : (k : ℕ) (q : Token) (a : ℕ) (item : Item) → item_of f k ≡ item
          → Each IsNamed (filled_row (row_from item q) a)
      row-named k q a (Atom height kind) is = tt
      row-named k q a (Row r) is = (record { item = k; lt = item-known f k r is; is = is }, tt)

      filled-named : (i : ℕ) (h : Option ℕ) (stop : Option Step) → OfStop (IsStepFrom inner f i) stop
          → Each IsNamed (laid_filled h stop)
      filled-named i None stop of = tt
      filled-named i (Some h) None of = tt
      filled-named i (Some h) (Some s) of = let P : Option (ℕ × Token) → Type 0 = λ row. Each IsNamed (filled_row row (room s h))
          in subst P (sym of.row) (row-named s.item of.from (room s h) (item_of f s.item) refl)

      to-named : (t : Token) (h : Option ℕ) (stop : Option Step) (end : Token) → item_number t ≤ item_number end
          → item_number end ≤ length f.items → Each IsNamed (laid_filled h stop) → Each IsNamed (laid_to inner d f t h stop end)
      to-named t h stop [] later known filled = tt
      to-named t h stop (e ∷ []) later known filled = go (fills_item h stop (e - 1)) (e == 0)
        where
          whole : Each IsNamed (laid_items inner f (start_strip d f t) (item_number t) (within t) (e - item_number t))
          whole = items-named (start_strip d f t) (item_number t) (within t) (e - item_number t) (omega arith)

          go : (b z : Bool) → Each IsNamed (cond (b && not z)
              (laid_before inner f (start_strip d f t) (item_number t) (within t) (e - 1 - item_number t) ++ laid_filled h stop
              ++ laid_edges (strip_filled h stop) (seam_of f e).tail)
              (laid_items inner f (start_strip d f t) (item_number t) (within t) (e - item_number t)))
          go true true = whole
          go true false =
              Each-append IsNamed (laid_before inner f (start_strip d f t) (item_number t) (within t) (e - 1 - item_number t)
              ++ laid_filled h stop) (laid_edges (strip_filled h stop) (seam_of f e).tail)
              (Each-append IsNamed (laid_before inner f (start_strip d f t) (item_number t) (within t) (e - 1 - item_number t))
              (laid_filled h stop)
              (before-named (start_strip d f t) (item_number t) (within t) (e - 1 - item_number t) (omega arith)) filled)
              (tails-named (strip_filled h stop) e)
          go false z = whole
      to-named t h stop (e ∷ (j ∷ rest)) later known filled =
          Each-append IsNamed (laid_before inner f (start_strip d f t) (item_number t) (within t) (e - item_number t)) _
          (before-named (start_strip d f t) (item_number t) (within t) (e - item_number t) (omega arith)) filled

      start-named : (t : Token) → Each IsNamed (laid_start d f t)
      start-named [] = tt
      start-named (i ∷ []) =
          heads-named (strip_at (tops d (open_across f i)) (not (i == 0 || is_forced (seam_of f i).level))) i
      start-named (i ∷ (j ∷ rest)) = tt

      -- each box that is open at an item is one of the data
      at-known : (k : ℕ) → All (λ b. b < length d.boxes) (open_at f k)
      at-known k j b lt = let m : ℕ = get_or (open_at f k) j b
          in in-range d f sound m (omega (arith, has-count (open_at f k) j b lt, open_at-le (λ x. cond (x == m) 1 0) f k))

      continuing-known : (t : Token) → All (λ b. b < length d.boxes) (continuing f t)
      continuing-known [] = λ j b lt. absurd (omega arith)
      continuing-known (i ∷ []) = across-known d f sound i
      continuing-known (i ∷ (j ∷ rest)) = at-known i

      stop-steps : (t : Token) (h : Option ℕ) → OfStop (IsStepFrom inner f (item_number t)) (stop_of inner d f t h)
      stop-steps t None = tt
      stop-steps t (Some h) = stop-from inner d f t h

      -- ---- where a column ends

      abbrev IsWithin : Token → Token → Type 0
      IsWithin t end = (item_number t ≤ item_number end) × (item_number end ≤ length f.items)

      seam-within : (t : Token) (h : Option ℕ) (stop : Option Step) (end : Token) → EndsAtSeam inner f t h stop end
          → IsWithin t end
      seam-within t h stop end e =
          let later = e.later in
          let known = e.known in
          subst (IsWithin t) (sym e.is) (omega arith, omega arith)

      row-within : (t : Token) (h : ℕ) (s : Step) (end : Token) → EndsInRow inner f t h s end → IsWithin t end
      row-within t h s end e = subst (IsWithin t) (sym e.is) (go (inner.fill e.row e.from (room s h)).at_end)
        where
          go : (b : Bool) → IsWithin t (cond b ((s.item + 1) ∷ []) (s.item ∷ (inner.fill e.row e.from (room s h)).end))
          go true = let later = e.later in let known = e.known in (omega arith, omega arith)
          go false = let later = e.later in let known = e.known in (omega arith, omega arith)

      ends-within : (t : Token) (h : Option ℕ) (stop : Option Step) (end : Token) → EndsFor inner f t h stop end → IsWithin t end
      ends-within t None stop end e = seam-within t None stop end e
      ends-within t (Some h) None end e = seam-within t (Some h) None end e
      ends-within t (Some h) (Some s) end (inl e) = seam-within t (Some h) (Some s) end e
      ends-within t (Some h) (Some s) end (inr e) = row-within t h s end e

      -- All that is placed in a column is named.
      pub column-named : (t : Token) (h : Option ℕ) → item_number t < length f.items → Each IsNamedAt (places_in d f t
          (laid_start d f t ++ laid_to inner d f t h (stop_of inner d f t h) (column_made inner d f h t).end))
      column-named t h lt =
          let stop = stop_of inner d f t h in
          let end = (column_made inner d f h t).end in
          let xs = laid_start d f t ++ laid_to inner d f t h stop end in
          let in_flow = ends-within t h stop end (column-ends inner f t d h lt) in
          Each-append IsNamedAt (continued_from d 0 (continuing f t))
          (places_from (length xs + 1) (tops d (continuing f t)) xs) (continued-named 0 (continuing f t) (continuing-known t))
          (places-named (length xs + 1) (tops d (continuing f t)) xs
          (Each-append IsNamed (laid_start d f t) (laid_to inner d f t h stop end) (start-named t)
          (to-named t h stop end in_flow.0 in_flow.1 (filled-named (item_number t) h stop (stop-steps t h)))))

    -- ---- what is laid in a stack

    module _ (bound : Bound) where
      in-stack-named : (k : ℕ) → k < length f.items → IsNamed (laid_in_stack d bound f k (item_of f k))
      in-stack-named k lt = go (item_of f k) refl
        where
          go : (item : Item) → item_of f k ≡ item → IsNamed (laid_in_stack d bound f k item)
          go (Atom height kind) is = lt
          go (Row r) is = record { item = k; lt = lt; is = is }

      stack-items-named : (k n : ℕ) → k + n ≤ length f.items → Each IsNamed (stack_laid d bound f k n)
      unfolding stack_laid
      stack-items-named k zero le = tt
      stack-items-named k (suc n) le =
          let s = stack_strip d bound f k in
          let behind = put s (height_in_stack d bound (item_of f k) (begins s)) in
          let here = laid_in_stack d bound f k (item_of f k) in
          let tail = laid_edges behind (seam_of f (k + 1)).tail in
          let head = laid_edges (lay_all behind (seam_of f (k + 1)).tail) (seam_of f (k + 1)).head in
          Each-append IsNamed ((here ∷ tail) ++ head) (stack_laid d bound f (k + 1) n)
          (Each-append IsNamed (here ∷ tail) head (in-stack-named k (omega arith), tails-named behind (k + 1))
          (heads-named (lay_all behind (seam_of f (k + 1)).tail) (k + 1)))
          (stack-items-named (k + 1) n (omega arith))

      -- All that is placed in a stack is named.
      pub stack-named : Each IsNamedAt (continued_from d 0 f.opened ++ places_from
          (length (laid_edges (strip_at (tops d f.opened) false) (seam_of f 0).head ++ stack_laid d bound f 0 (length f.items))
          + 1) (tops d f.opened) (laid_edges (strip_at (tops d f.opened) false) (seam_of f 0).head ++ stack_laid d bound f 0
          (length f.items)))
      stack-named =
          let start = laid_edges (strip_at (tops d f.opened) false) (seam_of f 0).head in
          let xs = start ++ stack_laid d bound f 0 (length f.items) in
          Each-append IsNamedAt (continued_from d 0 f.opened) (places_from (length xs + 1) (tops d f.opened) xs)
          (continued-named 0 f.opened (opened-known d f sound))
          (places-named (length xs + 1) (tops d f.opened) xs
          (Each-append IsNamed start (stack_laid d bound f 0 (length f.items))
          (heads-named (strip_at (tops d f.opened) false) 0) (stack-items-named 0 (length f.items) (omega arith))))
