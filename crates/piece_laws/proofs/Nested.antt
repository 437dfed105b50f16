-- The trees of columns and of stacks of sound data have the pieces of their boxes.
use Rattle.std.proofs.Common.{◌≡◌, ℕ, zero, suc, ◌+◌, ◌<◌, ◌≤◌, false, List, [], ◌∷◌, ◌++◌, length, Option, Some, None, refl, sym}
use Rattle.std.proofs.Common.{subst, ◌∙◌, ap, arith, inl, inr}
use Rattle.std.specs.List.{flat_map}
use Rattle.std.proofs.lemmas.List.{append-nil}
use Rattle.mc_base.specs.PlainTree.{PlainTree}
use Rattle.flow_list.specs.Data.{Bound, Edge, Flow, FlowsData, Item, Margin, Solid, Wall, Start, End, Atom, Row}
use Rattle.flow_data.specs.Flows.{ended, flow_in, flow_of, item_of, no_flow, no_seam, seam_of, stack_of, started}
use Rattle.flow_data.specs.Soundness.{IsSound, IsSoundFlow}
use Rattle.flow_list.specs.ClonedEdges.{tops}
use Rattle.flow_list.specs.Tokens.{Token, IsPlaceBefore, item_number, row_start}
use Rattle.flow_list.specs.Strip.{strip_at, put, lay_all, begins}
use Rattle.flow_list.specs.Column.{Column, Inner, room, Step}
use Rattle.flow_list.specs.Rows.{all_rows, rows_to}
use Rattle.flow_list.specs.RowHeights.{column_within}
use Rattle.flow_list.specs.Stacks.{height_in_stack, stack_extent, stack_strip}
use Rattle.flow_list.specs.Placing.{Laid, laid_edges, RowLaid}
use Rattle.flow_list.specs.Fragments.{column_made, fragment_of, laid_in_stack, laid_start, laid_to, row_fragments, stack_fragment}
use Rattle.flow_list.specs.Fragments.{stack_laid, stop_of}
use Rattle.flow_laws.specs.Holding.{items_before}
use Rattle.flow_laws.specs.Progress.{contents_to}
use Rattle.flow_laws.proofs.Places.{in-items, IsReached}
use Rattle.flow_laws.proofs.HoldingColumns.{holds-at, ItemHolds, place-at, RowHolds}
use Rattle.flow_laws.proofs.HoldingEnds.{column-ends, EndsFor, taken}
use Rattle.flow_laws.proofs.HoldingRows.{flow-holds}
use Rattle.piece_laws.specs.Boxes.{BoxesHavePieces, HasPieces, StackHasPieces}
use Rattle.piece_laws.specs.Nesting.{Crossing, crossings}
use Rattle.piece_laws.proofs.Walking.{of_laid}
use Rattle.piece_laws.proofs.Stacks.{At, at-item, at-row, none-last}
use Rattle.piece_laws.proofs.Between.{Adds, adds-both, adds-none, head-adds, head-more, in-seams, Reaches, row-reaches}
use Rattle.piece_laws.proofs.Between.{seam-reaches, tail-adds, to_head, to_tail}
use Rattle.piece_laws.proofs.Pieces.{column-has}

-- ---- a column

before-le : (t : Token) → items_before t ≤ item_number t + 1
before-le [] = omega arith
before-le (k ∷ []) = omega arith
before-le (k ∷ (j ∷ rest)) = omega arith

module _ (d : FlowsData) (sound : IsSound d) (f : ℕ) (lt : f < length d.flows) where
  abbrev here : Flow
  here = flow_of d f

  abbrev rows : Inner
  rows = rows_to d (length d.rows)

  abbrev trees : RowLaid → List PlainTree
  trees = row_fragments d (length d.rows)

  abbrev flow : IsSoundFlow d (flow_of d f)
  flow = sound.flows f no_flow lt

  -- a place that a row leaves in a column is one
  leaves : (t : Token) → IsPlaceBefore d here t → (s : ℕ) (q : Token) (a k : ℕ) → item_number t ≤ k → item_of here k ≡ Row s →
      q ≡ taken rows here t k → (rows.fill s q a).at_end ≡ false → (j : ℕ) × (rest : Token) × ((rows.fill s q a).end ≡ j ∷ rest)
  leaves t place s q a k le is from e =
      let at = place-at d rows (contents_to d (length d.rows)) trees 0 here (flow-holds d sound f lt) t place k s is le in
      go (rows.fill s q a).end (holds.place q a (subst (IsReached d (flow_in d s)) (sym from) at) e)
    where
      holds : RowHolds d rows (contents_to d (length d.rows)) trees s
      holds = let P : Item → Type 0 = λ item. ItemHolds d rows (contents_to d (length d.rows)) trees item in
          subst P is (holds-at d rows (contents_to d (length d.rows)) trees here.items k (flow-holds d sound f lt))

      go : (u : Token) → IsPlaceBefore d (flow_in d s) u → (j : ℕ) × (rest : Token) × (u ≡ j ∷ rest)
      go [] inner = absurd inner
      go (j ∷ rest) inner = (j, rest, refl)

  at-place : (t : Token) → IsPlaceBefore d here t → item_number t < length here.items → At d here flow t
  at-place [] place lt = absurd place
  at-place (k ∷ []) place lt = at-item d here flow k (in-seams d here flow k (omega arith))
  at-place (k ∷ (j ∷ rest)) place lt = at-row d here flow k j rest (in-seams d here flow k (omega arith))

  module _ (t : Token) (place : IsPlaceBefore d here t) where
    ends-reach : (h : Option ℕ) (stop : Option Step) (end : Token) → EndsFor rows here t h stop end →
        Reaches d here flow rows t place h stop end
    ends-reach None stop end e = seam-reaches d here flow rows t place (in-items d here t place) None stop end e
    ends-reach (Some h) None end e = seam-reaches d here flow rows t place (in-items d here t place) (Some h) None end e
    ends-reach (Some h) (Some s) end (inl e) =
        seam-reaches d here flow rows t place (in-items d here t place) (Some h) (Some s) end e
    ends-reach (Some h) (Some s) end (inr e) =
        row-reaches d here flow rows t place (in-items d here t place) h s end e
        (leaves t place e.row e.from (room s h) s.item e.later e.item e.taken_from)

    column-pieces : (h : Option ℕ) → HasPieces here t (column_made rows d here h t).end (fragment_of trees rows d f here h t)
    column-pieces h =
        let c = column_made rows d here h t in
        let lt = in-items d here t place in
        let r = ends-reach h (stop_of rows d here t h) c.end (column-ends rows here t d h lt) in
        let before = before-le t in
        let later = r.later in
        let past = r.past in
        column-has d here flow t c.end (at-place t place lt) r.there
        (laid_start d here t ++ laid_to rows d here t h (stop_of rows d here t h) c.end) r.crosses (omega arith) (omega arith)
        trees f t c.end c.extent

made-within : (d : FlowsData) (f : Flow) (h : Option ℕ) (t : Token) →
    column_made (all_rows d) d f h t ≡ column_within d f h t
made-within d f None t = refl
made-within d f (Some h) t = refl

pub boxes-have-pieces : (d : FlowsData) → IsSound d → (f : ℕ) → f < length d.flows → BoxesHavePieces d f
unfolding all_rows
boxes-have-pieces d sound f lt t h place =
    let P : Column → Type 0 = λ c. HasPieces (flow_of d f) t c.end
    (fragment_of (row_fragments d (length d.rows)) (all_rows d) d f (flow_of d f) h t) in
    subst P (made-within d (flow_of d f) h t) (column-pieces d sound f lt t place h)

-- ---- a stack

no-crossings : (es : List Edge) → flat_map started es ≡ [] → flat_map ended es ≡ [] → crossings es ≡ []
no-crossings [] none gone = refl
no-crossings (Margin m ∷ es) none gone = no-crossings es none gone
no-crossings (Solid a ∷ es) none gone = no-crossings es none gone
no-crossings (Wall ∷ es) none gone = no-crossings es none gone
no-crossings (Start b ∷ es) none gone = cc
no-crossings (End b ∷ es) none gone = cc

module _ (d : FlowsData) (f : Flow) (flow : IsSoundFlow d f) (bound : Bound) where
  item-none : (k : ℕ) (item : Item) → of_laid (laid_in_stack d bound f k item) ≡ []
  item-none k (Atom height kind) = refl
  item-none k (Row r) = refl

  stack-adds : (k n : ℕ) → k + n ≤ length f.items →
      Adds (to_head d f flow k) (stack_laid d bound f k n) (to_head d f flow (k + n))
  unfolding stack_laid
  stack-adds k zero le =
      let e : k ≡ k + 0 = omega arith in adds-none (to_head d f flow k) [] refl ∙ ap (to_head d f flow) e
  stack-adds k (suc n) le =
      let behind = put (stack_strip d bound f k) (height_in_stack d bound (item_of f k) (begins (stack_strip d bound f k))) in
      let item = laid_in_stack d bound f k (item_of f k) in
      let tail = laid_edges behind (seam_of f (k + 1)).tail in
      let head = laid_edges (lay_all behind (seam_of f (k + 1)).tail) (seam_of f (k + 1)).head in
      let later = stack_laid d bound f (k + 1) n in
      let to : ℕ → List Crossing = λ m. to_head d f flow m in
      let e : k + 1 + n ≡ k + suc n = omega arith in
      adds-both (to k) (to k) (to (k + 1 + n)) (item ∷ []) ((tail ++ head) ++ later)
      (adds-none (to k) (item ∷ []) (ap (λ us. us ++ []) (item-none k (item_of f k))))
      (adds-both (to k) (to (k + 1)) (to (k + 1 + n)) (tail ++ head) later
      (adds-both (to k) (to_tail d f flow (k + 1)) (to (k + 1)) tail head (tail-adds d f flow behind k)
      (head-adds d f flow (lay_all behind (seam_of f (k + 1)).tail) (k + 1) (omega arith)))
      (stack-adds (k + 1) n (omega arith)))
      ∙ ap to e

  abbrev end : ℕ
  end = length f.items

  abbrev laid_all : List Laid
  laid_all = laid_edges (strip_at (tops d f.opened) false) (seam_of f 0).head ++ stack_laid d bound f 0 end

  none-behind : to_head d f flow end ≡ to_tail d f flow end
  none-behind =
      sym (head-more d f flow end (omega arith))
      ∙ ap (λ us. to_tail d f flow end ++ us)
      (no-crossings (seam_of f end).head (none-last d f flow) (flow.seams end no_seam (in-seams d f flow end (omega arith))).head)
      ∙ append-nil (to_tail d f flow end)

  all-adds : Adds (to_tail d f flow 0) laid_all (to_tail d f flow end)
  all-adds =
      let e : 0 + end ≡ end = omega arith in
      adds-both (to_tail d f flow 0) (to_head d f flow 0) (to_tail d f flow end)
      (laid_edges (strip_at (tops d f.opened) false) (seam_of f 0).head) (stack_laid d bound f 0 end)
      (head-adds d f flow (strip_at (tops d f.opened) false) 0 (omega arith))
      (stack-adds 0 end (omega arith) ∙ ap (to_head d f flow) e ∙ none-behind)

pub stack-has-pieces : (d : FlowsData) → IsSound d → (s : ℕ) → s < length d.stacks → StackHasPieces d s
unfolding stack_fragment
stack-has-pieces d sound s lt =
    let number = (stack_of d s).flow in
    let f = flow_of d number in
    let flow = sound.flows number no_flow (sound.stacks s lt).flow in
    let bound = (stack_of d s).bound in
    let n = length f.items in
    column-has d f flow row_start (n ∷ []) (at-item d f flow 0 (in-seams d f flow 0 (omega arith)))
    (at-item d f flow n (in-seams d f flow n (omega arith))) (laid_all d f flow bound) (all-adds d f flow bound)
    (omega arith) (omega arith) (row_fragments d (suc (length d.rows))) number row_start (n ∷ []) (stack_extent d bound f)
