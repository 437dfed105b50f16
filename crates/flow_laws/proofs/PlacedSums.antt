-- What stands in a column, or in a stack, stands no lower than its flow reaches in all, where each row counts with a share that
-- is no less than its height.
use Rattle.std.proofs.Common.{◌≡◌, ℕ, zero, suc, ◌+◌, ◌≤◌, ◌==◌, false, not, ◌||◌, List, [], ◌∷◌, ◌++◌, length, Option, Some}
use Rattle.std.proofs.Common.{None, refl, subst, arith, sum_by, add-one}
use Rattle.std.proofs.lemmas.List.Sums.{sum_by-cons, sum_by-append}
use Rattle.std.specs.List.{AllByRecursion as Each}
use Rattle.flow_list.specs.Data.{Bound, Flow, FlowsData, Item, Atom, Row}
use Rattle.flow_data.specs.Flows.{item_of, seam_of, box_of, rows_in, amount, boxes_in}
use Rattle.flow_list.specs.ClonedEdges.{open_across, tops, bottoms}
use Rattle.flow_list.specs.Tokens.{Token, item_number}
use Rattle.flow_list.specs.Strip.{Strip, strip_at, put, lay_all, begins}
use Rattle.flow_list.specs.Column.{Inner, cut, steps_from, is_forced, column}
use Rattle.flow_data.specs.Soundness.{flow_height}
use Rattle.flow_list.specs.RowHeights.{row_height}
use Rattle.flow_list.specs.Stacks.{available_at, height_in_stack, stack_strip, stack_extent}
use Rattle.flow_list.specs.Placing.{Laid, laid_edges, Placed, places_from}
use Rattle.flow_list.specs.Fragments.{laid_start, continuing, continued_from, stop_of, laid_to, places_in, column_made}
use Rattle.flow_list.specs.Fragments.{laid_in_stack, stack_laid}
use Rattle.flow_list.proofs.StripBounds.{put_le, lay_all_le}
use Rattle.flow_data.proofs.BoxSums.{open_at-le}
use Rattle.flow_list.proofs.Fitting.{open_across-le}
use Rattle.flow_list.proofs.PlaceBounds.{Each-append, HasShare, IsNoLower, places-le}
use Rattle.flow_list.proofs.ColumnParts.{OfStop}
use Rattle.flow_laws.proofs.FillEnds.{IsEndFor, column-right, IsStepFrom, stop-from}
use Rattle.flow_laws.proofs.LaidSums.{IsRowOf, item-known, share, item_share, edges-have, edges-le, ahead, ahead-first, whole-le}
use Rattle.flow_laws.proofs.LaidSums.{to-lay}

module _ (d : FlowsData) (f : Flow) (total : ℕ → ℕ) where
  -- all that stands in the flow, with the shares of its rows
  pub whole : ℕ
  whole = flow_height d f + sum_by total (rows_in f)

  pub whole-is : whole ≡ flow_height d f + sum_by total (rows_in f)
  unfolding whole
  whole-is = refl

  -- something stands within that
  abbrev pub IsWithin : Placed → Type 0
  IsWithin p = IsNoLower (share total) (IsRowOf f) whole p

  continued-low : (y : ℕ) (boxes : List ℕ) → y + tops d boxes ≤ whole → Each IsWithin (continued_from d y boxes)
  continued-low y [] le = tt
  continued-low y (b ∷ boxes) le =
      let s : tops d (b ∷ boxes) ≡ (box_of d b).top + tops d boxes = sum_by-cons (λ b. (box_of d b).top) b boxes in
      (omega arith, continued-low (y + (box_of d b).top) boxes (omega arith))

  continuing-le : (t : Token) → tops d (continuing f t) ≤ tops d (boxes_in f)
  continuing-le [] = omega arith
  continuing-le (i ∷ []) = open_across-le (λ b. (box_of d b).top) f i
  continuing-le (i ∷ (j ∷ rest)) = open_at-le (λ b. (box_of d b).top) f i

  start-have : (t : Token) → Each (HasShare (share total) (IsRowOf f)) (laid_start d f t)
  start-have [] = tt
  start-have (i ∷ []) = edges-have total (IsRowOf f)
      (strip_at (tops d (open_across f i)) (not (i == 0 || is_forced (seam_of f i).level))) (seam_of f i).head
  start-have (i ∷ (j ∷ rest)) = tt

  start-sum : (t : Token) → sum_by (share total) (laid_start d f t) ≤ sum_by amount (seam_of f (item_number t)).head
  start-sum [] = omega arith
  start-sum (i ∷ []) = edges-le total (strip_at (tops d (open_across f i)) (not (i == 0 || is_forced (seam_of f i).level)))
      (seam_of f i).head
  start-sum (i ∷ (j ∷ rest)) = omega arith

  -- ---- columns

  module _ (inner : Inner) (sizes : (r : ℕ) (q : Token) → inner.size r q ≤ total r) where
    stop-of-steps : (t : Token) (h : Option ℕ) → OfStop (IsStepFrom inner f (item_number t)) (stop_of inner d f t h)
    stop-of-steps t None = tt
    stop-of-steps t (Some h) = stop-from inner d f t h

    end-for : (t : Token) (h : Option ℕ) (a : ℕ) → h ≡ Some a → IsEndFor a (stop_of inner d f t h) (column_made inner d f h t).end
    end-for t None a e = cc
    end-for t (Some h) a e =
        let same : h ≡ a = cc in
        let P : ℕ → Type 0 = λ a. IsEndFor a (cut h (steps_from inner d f t)).stop (column inner d f t h).end in
        subst P same (column-right inner d f t h)

    pub column-placed : (t : Token) (h : Option ℕ)
        → Each IsWithin (places_in d f t
        (laid_start d f t ++ laid_to inner d f t h (stop_of inner d f t h) (column_made inner d f h t).end))
    unfolding whole
    column-placed t h =
        let to = to-lay total f inner sizes d t h (stop_of inner d f t h) (column_made inner d f h t).end (stop-of-steps t h)
        (end-for t h) in
        let le = to.le in
        let top = continuing-le t in
        let start = start-sum t in
        let all = whole-le total f d inner (item_number t) in
        let s = sum_by-append (share total) (laid_start d f t)
        (laid_to inner d f t h (stop_of inner d f t h) (column_made inner d f h t).end) in
        Each-append IsWithin (continued_from d 0 (continuing f t)) _ (continued-low 0 (continuing f t) (omega arith))
        (places-le (share total) (IsRowOf f) _ (tops d (continuing f t)) whole
        (laid_start d f t ++ laid_to inner d f t h (stop_of inner d f t h) (column_made inner d f h t).end)
        (Each-append (HasShare (share total) (IsRowOf f)) (laid_start d f t) _ (start-have t) to.each) (omega arith))

  -- ---- stacks

  module _ (bound : Bound) (inner : Inner) (heights : (r : ℕ) (available : Option ℕ) → row_height d r available ≤ total r) where
    in-stack-has : (k : ℕ) → HasShare (share total) (IsRowOf f) (laid_in_stack d bound f k (item_of f k))
    in-stack-has k = go (item_of f k) refl
      where
        go : (item : Item) → item_of f k ≡ item → HasShare (share total) (IsRowOf f) (laid_in_stack d bound f k item)
        go (Atom height kind) is = omega arith
        go (Row r) is = (heights r _, record { item = k; lt = item-known f k r is; is = is })

    in-stack-share : (k : ℕ) (item : Item) → share total (laid_in_stack d bound f k item) ≡ item_share total item
    in-stack-share k (Atom height kind) = refl
    in-stack-share k (Row r) = refl

    pub in-stack-height : (item : Item) (x : ℕ) → height_in_stack d bound item x ≤ item_share total item
    in-stack-height (Atom height kind) x = omega arith
    in-stack-height (Row r) x = heights r (available_at bound x)

    record StackLays (k : ℕ) (xs : List Laid) : Type 0 where
      each : Each (HasShare (share total) (IsRowOf f)) xs
      le : sum_by (share total) xs ≤ ahead total f inner k

    stack-sum : (k : ℕ) (s : Strip) (later : List Laid) → sum_by (share total) later ≤ ahead total f inner (k + 1) →
        sum_by (share total) (laid_in_stack d bound f k (item_of f k) ∷ laid_edges
        (put s (height_in_stack d bound (item_of f k) (begins s))) (seam_of f (k + 1)).tail ++ laid_edges
        (lay_all (put s (height_in_stack d bound (item_of f k) (begins s))) (seam_of f (k + 1)).tail)
        (seam_of f (k + 1)).head ++ later) ≤ ahead total f inner k
    stack-sum k s later le =
        let a = sum_by-append (share total)
        (laid_in_stack d bound f k (item_of f k) ∷ laid_edges (put s (height_in_stack d bound (item_of f k) (begins s)))
        (seam_of f (k + 1)).tail ++ laid_edges
        (lay_all (put s (height_in_stack d bound (item_of f k) (begins s))) (seam_of f (k + 1)).tail)
        (seam_of f (k + 1)).head) later in
        let b = sum_by-append (share total)
        (laid_in_stack d bound f k (item_of f k) ∷ laid_edges (put s (height_in_stack d bound (item_of f k) (begins s)))
        (seam_of f (k + 1)).tail) (laid_edges
        (lay_all (put s (height_in_stack d bound (item_of f k) (begins s))) (seam_of f (k + 1)).tail)
        (seam_of f (k + 1)).head) in
        let c = sum_by-cons (share total) (laid_in_stack d bound f k (item_of f k))
        (laid_edges (put s (height_in_stack d bound (item_of f k) (begins s))) (seam_of f (k + 1)).tail) in
        let tail = edges-le total (put s (height_in_stack d bound (item_of f k) (begins s))) (seam_of f (k + 1)).tail in
        let head = edges-le total (lay_all (put s (height_in_stack d bound (item_of f k) (begins s))) (seam_of f (k + 1)).tail)
        (seam_of f (k + 1)).head in
        let own = in-stack-share k (item_of f k) in
        let first = ahead-first total f inner k in
        omega arith

    stack-lays : (k n : ℕ) → StackLays k (stack_laid d bound f k n)
    unfolding stack_laid
    stack-lays k zero = record { each = tt; le = omega arith }
    stack-lays k (suc n) = go (stack_strip d bound f k) (stack_laid d bound f (k + 1) n) (stack-lays (k + 1) n)
      where
        go : (s : Strip) (later : List Laid) → StackLays (k + 1) later →
            StackLays k (laid_in_stack d bound f k (item_of f k) ∷ laid_edges
            (put s (height_in_stack d bound (item_of f k) (begins s))) (seam_of f (k + 1)).tail ++ laid_edges
            (lay_all (put s (height_in_stack d bound (item_of f k) (begins s))) (seam_of f (k + 1)).tail)
            (seam_of f (k + 1)).head ++ later)
        go s later more =
            let height = height_in_stack d bound (item_of f k) (begins s) in
            let here = laid_in_stack d bound f k (item_of f k) in
            let tail = laid_edges (put s height) (seam_of f (k + 1)).tail in
            let head = laid_edges (lay_all (put s height) (seam_of f (k + 1)).tail) (seam_of f (k + 1)).head in
            record {
              each =
                  Each-append (HasShare (share total) (IsRowOf f)) (here ∷ tail ++ head) later
                  (Each-append (HasShare (share total) (IsRowOf f)) (here ∷ tail) head
                  (in-stack-has k, edges-have total (IsRowOf f) (put s height) (seam_of f (k + 1)).tail)
                  (edges-have total (IsRowOf f) (lay_all (put s height) (seam_of f (k + 1)).tail) (seam_of f (k + 1)).head))
                  more.each;
              le = stack-sum k s later more.le;
            }

    pub stack-placed : Each IsWithin
        (continued_from d 0 f.opened ++ places_from
        (length (laid_edges (strip_at (tops d f.opened) false) (seam_of f 0).head ++ stack_laid d bound f 0 (length f.items))
        + 1) (tops d f.opened) (laid_edges (strip_at (tops d f.opened) false) (seam_of f 0).head ++ stack_laid d bound f 0
        (length f.items)))
    unfolding whole
    stack-placed =
        let to = stack-lays 0 (length f.items) in
        let le = to.le in
        let top : tops d f.opened ≤ tops d (boxes_in f) = open_across-le (λ b. (box_of d b).top) f 0 in
        let start = edges-le total (strip_at (tops d f.opened) false) (seam_of f 0).head in
        let all = whole-le total f d inner 0 in
        let s = sum_by-append (share total) (laid_edges (strip_at (tops d f.opened) false) (seam_of f 0).head)
        (stack_laid d bound f 0 (length f.items)) in
        Each-append IsWithin (continued_from d 0 f.opened) _ (continued-low 0 f.opened (omega arith))
        (places-le (share total) (IsRowOf f) _ (tops d f.opened) whole
        (laid_edges (strip_at (tops d f.opened) false) (seam_of f 0).head ++ stack_laid d bound f 0 (length f.items))
        (Each-append (HasShare (share total) (IsRowOf f)) (laid_edges (strip_at (tops d f.opened) false) (seam_of f 0).head) _
        (edges-have total (IsRowOf f) _ (seam_of f 0).head) to.each) (omega arith))

    pub strip-le : (k : ℕ) → (stack_strip d bound f k).y + (stack_strip d bound f k).pending + ahead total f inner k ≤ tops d
        (boxes_in f) + sum_by amount (seam_of f 0).head + ahead total f inner 0
    unfolding stack_strip
    strip-le zero =
        let top : tops d (open_across f 0) ≤ tops d (boxes_in f) = open_across-le (λ b. (box_of d b).top) f 0 in
        let a = lay_all_le (strip_at (tops d (open_across f 0)) false) (seam_of f 0).head in
        omega arith
    strip-le (suc k) =
        let s = stack_strip d bound f k in
        let rest = strip-le k in
        let first = rw add-one at (ahead-first total f inner k) in
        let height = in-stack-height (item_of f k) (begins s) in
        let a = put_le s (height_in_stack d bound (item_of f k) (begins s)) in
        let b = lay_all_le (put s (height_in_stack d bound (item_of f k) (begins s))) (seam_of f (suc k)).tail in
        let c = lay_all_le (lay_all (put s (height_in_stack d bound (item_of f k) (begins s))) (seam_of f (suc k)).tail)
        (seam_of f (suc k)).head in
        omega arith

    pub stack-reach : stack_extent d bound f ≤ whole
    unfolding whole
    stack-reach =
        let a = strip-le (length f.items) in
        let b : bottoms d (open_across f (length f.items)) ≤ bottoms d (boxes_in f) =
        open_across-le (λ b. (box_of d b).bottom) f (length f.items) in
        let all = whole-le total f d inner 0 in
        omega arith
