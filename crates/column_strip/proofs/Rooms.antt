-- The rest of a flow has room below 2^60 after what is laid.
use Rattle.std.proofs.Common.{◌≡◌, ℕ, ◌+◌, ◌<◌, ◌≤◌, ◌^◌, false, true, List, [], ◌∷◌, length, drop, subst, ◌∙◌}
use Rattle.std.proofs.Common.{ap, arith, sum_by}
use Rattle.std.specs.Prelude.{is_some, refl}
use Rattle.mc_base.specs.declared.level.Level.{Level}
use Rattle.mc_base.specs.Places.{place_within}
use Rattle.flow_data.specs.declared.data.Edge.{Edge}
use Rattle.flow_data.specs.declared.data.Flow.{Flow}
use Rattle.flow_data.specs.declared.data.FlowsData.{FlowsData}
use Rattle.flow_data.specs.declared.data.Seam.{Seam}
use Rattle.flow_data.specs.Flows.{flow_of, seam_of, box_of, amount, boxes_in, open_at}
use Rattle.flow_data.specs.Soundness.{IsSound}
use Rattle.flow_data.proofs.BoxSums.{open_at-le}
use Rattle.flow_list.specs.ClonedEdges.{tops, bottoms}
use Rattle.flow_list.specs.Column.{start_strip}
use Rattle.flow_list.specs.Rows.{all_rows, heights_from, amounts_in}
use Rattle.flow_list.specs.Strip.{strip_at}
use Rattle.flow_list.specs.Tokens.{Token, IsPlaceBefore, row_start, item_number, within}
use Rattle.flow_list.proofs.Fitting.{first-height, first-amounts, amounts-drop, open_across-le}
use Rattle.column_laws.proofs.Bounds.{reach-small}
use Rattle.column_strip.specs.declared.laying.Laying.{Laying}
use Rattle.column_strip.specs.declared.open_boxes.OpenBoxes.{OpenBoxes}
use Rattle.column_strip.specs.Boxes.{IsAcross, IsOpen}
use Rattle.column_strip.specs.Passed.{height_at, IsBefore, IsBehind}

module _ (d : FlowsData) (n : ℕ) (sound : IsSound d) (in_flows : n < length d.flows) where
  abbrev f : Flow
  f = flow_of d n

  -- all of the flow from a place on
  whole-room : (t : Token) (i : ℕ) → item_number t ≡ i →
      tops d (boxes_in f) + bottoms d (boxes_in f) + amounts_in f.seams + height_at d f i (within t) + heights_from (all_rows d)
      row_start (drop (i + 1) f.items) < 2 ^ 60
  whole-room t i e =
      let P : ℕ → Type 0 = λ j. tops d (boxes_in f) + bottoms d (boxes_in f) + amounts_in f.seams + height_at d f j (within t)
      + heights_from (all_rows d) row_start (drop (j + 1) f.items) < 2 ^ 60 in
      subst P e (omega (arith, reach-small d sound n in_flows t, first-height (all_rows d) (within t) f.items (item_number t)))

  -- ---- before the first item of a column, which has number i
  module _ (i : ℕ) where
    pub head-room : (across : OpenBoxes) → IsAcross d f i across → (seam : Seam) → seam ≡ seam_of f i → (head : List Edge)
        → head ≡ seam.head → across.tops + sum_by amount head < 2 ^ 63
    head-room across is_across seam same head is =
        let t = is_across.above in
        let whole : head ≡ (seam_of f i).head = is ∙ ap (λ (s : Seam). s.head) same in
        rw whole (omega (
          arith,
          whole-room (i ∷ []) i refl,
          open_across-le (λ b. (box_of d b).top) f i,
          first-amounts f.seams i,
          amounts-drop f.seams i,
        ))

    pub begin-before : (across : OpenBoxes) → IsAcross d f i across → (seam : Seam) → seam ≡ seam_of f i → (head : List Edge)
        → head ≡ seam.head →
        (strip : Laying) (boxes : OpenBoxes) → strip.y + strip.pending ≤ across.tops + sum_by amount head → IsOpen d f i boxes →
        (t : Token) → item_number t ≡ i
        → IsBefore d f i (height_at d f i (within t)) (record { strip = strip; boxes = boxes; level = seam.level })
    begin-before across is_across seam same head is strip boxes le is_open t e =
        let whole : head ≡ (seam_of f i).head = is ∙ ap (λ (s : Seam). s.head) same in
        let top = is_across.above in
        let r : strip.y + strip.pending ≤ across.tops + sum_by amount (seam_of f i).head = rw whole at le in
        record {
          boxes = is_open;
          level = ap (λ (s : Seam). s.level) same;
          room = omega (
            arith,
            whole-room t i e,
            open_across-le (λ b. (box_of d b).top) f i,
            first-amounts f.seams i,
            amounts-drop f.seams i,
          );
        }

    pub resume-before : (seam : Seam) → seam ≡ seam_of f i → (strip : Laying) (boxes : OpenBoxes)
        → strip.y + strip.pending ≤ boxes.tops → IsOpen d f i boxes →
        (t : Token) → item_number t ≡ i
        → IsBefore d f i (height_at d f i (within t)) (record { strip = strip; boxes = boxes; level = seam.level })
    resume-before seam same strip boxes le is_open t e =
        let top = is_open.above in
        record {
          boxes = is_open;
          level = ap (λ (s : Seam). s.level) same;
          room = omega (arith, whole-room t i e, open_at-le (λ b. (box_of d b).top) f i, amounts-drop f.seams (i + 1));
        }

  -- ---- item k of this height, and the tail of the seam after it
  module _ (k height y pending : ℕ)
      (room : y + pending + height + heights_from (all_rows d) row_start (drop (k + 1) f.items) + amounts_in
      (drop (k + 1) f.seams) + bottoms d (boxes_in f) < 2 ^ 60)
      (seam : Seam) (same : seam ≡ seam_of f (k + 1)) (tail : List Edge) (is : tail ≡ seam.tail) where
    whole_tail : tail ≡ (seam_of f (k + 1)).tail
    whole_tail = is ∙ ap (λ (s : Seam). s.tail) same

    pub item-room : y + pending + height + sum_by amount tail < 2 ^ 63
    item-room = rw whole_tail (omega (arith, room, first-amounts f.seams (k + 1)))

    pub item-behind : (strip : Laying) (boxes : OpenBoxes) → strip.y + strip.pending ≤ y + pending + height + sum_by amount tail
        → IsAcross d f (k + 1) boxes →
        IsBehind d f k (record { strip = strip; boxes = boxes; level = seam.level })
    item-behind strip boxes le is_across =
        let r : strip.y + strip.pending ≤ y + pending + height + sum_by amount (seam_of f (k + 1)).tail = rw whole_tail at le in
        record {
          across = is_across;
          level = ap (λ (s : Seam). s.level) same;
          room = omega (arith, room, first-amounts f.seams (k + 1));
        }

  -- ---- the head of the seam after item k
  module _ (k y pending : ℕ)
      (room : y + pending + sum_by amount (seam_of f (k + 1)).head + heights_from (all_rows d) row_start (drop (k + 1) f.items)
      + amounts_in (drop (k + 1 + 1) f.seams) + bottoms d (boxes_in f) < 2 ^ 60)
      (seam : Seam) (same : seam ≡ seam_of f (k + 1)) (head : List Edge) (is : head ≡ seam.head) where
    whole_head : head ≡ (seam_of f (k + 1)).head
    whole_head = is ∙ ap (λ (s : Seam). s.head) same

    pub next-room : y + pending + sum_by amount head < 2 ^ 63
    next-room = rw whole_head (omega (arith, room))

    pub next-before : (strip : Laying) (boxes : OpenBoxes) (level : Level) → level ≡ (seam_of f (k + 1)).level
        → strip.y + strip.pending ≤ y + pending + sum_by amount head → IsOpen d f (k + 1) boxes →
        IsBefore d f (k + 1) (height_at d f (k + 1) row_start) (record { strip = strip; boxes = boxes; level = level })
    next-before strip boxes level is_level le is_open =
        let r : strip.y + strip.pending ≤ y + pending + sum_by amount (seam_of f (k + 1)).head = rw whole_head at le in
        record {
          boxes = is_open;
          level = is_level;
          room = omega (arith, room, first-height (all_rows d) row_start f.items (k + 1));
        }

-- ---- where the column begins

pub start-begun : (d : FlowsData) (f : Flow) (t : Token) → IsPlaceBefore d f t → is_some (place_within t) ≡ false
    → start_strip d f (item_number t ∷ []) ≡ start_strip d f t
start-begun d f [] place none = absurd place
start-begun d f (i ∷ []) place none = refl
start-begun d f (i ∷ (j ∷ rest)) place none = absurd (cc)

pub start-resumed : (d : FlowsData) (f : Flow) (t : Token) → IsPlaceBefore d f t → is_some (place_within t) ≡ true
    → strip_at (tops d (open_at f (item_number t))) true ≡ start_strip d f t
start-resumed d f [] place some = absurd place
start-resumed d f (i ∷ []) place some = absurd (cc)
start-resumed d f (i ∷ (j ∷ rest)) place some = refl
