-- Sizes, needs and extents are no more than all that stands in a row.
use Rattle.std.proofs.Common.{ℕ, zero, suc, ◌+◌, ◌-◌, ◌<◌, ◌≤◌, ◌^◌, Bool, true, false, cond, List, [], ◌∷◌, ◌++◌, length, drop}
use Rattle.std.proofs.Common.{get_or, Option, Some, None, arith, sum_by, ◌≡◌, not, ◌&&◌, refl}
use Rattle.std.specs.Prelude.{All, nat_lt, nat_le}
use Rattle.std.specs.List.{flat_map, AllByRecursion as Each}
use Rattle.std.proofs.lemmas.Bool.Decides.{nat_tests}
use Rattle.std.proofs.lemmas.List.Sums.{sum_by-cons}
use Rattle.flow_list.specs.Data.{Flow, FlowsData, Item, Atom, Row}
use Rattle.flow_data.specs.Flows.{box_of, row_of, flow_of, flow_in, item_of, seam_of, row_in, rows_in, no_row, no_flow}
use Rattle.flow_data.specs.Flows.{atom_height, boxes_in, open_at}
use Rattle.flow_list.specs.ClonedEdges.{open_across, bottoms}
use Rattle.flow_data.specs.Soundness.{IsSound, IsSoundFlow, flow_height}
use Rattle.flow_list.specs.Tokens.{Token, row_start, item_number, within}
use Rattle.flow_list.specs.Strip.{Strip, strip_at, put, lay_all}
use Rattle.flow_list.specs.Column.{Filled, Inner, Step, Place, cut, height_of, strip_behind, steps, steps_from, start_strip}
use Rattle.flow_list.specs.Column.{tail_from, inside_place, room, seams_before, seams_between, last_place, no_place, column}
use Rattle.flow_list.specs.Column.{endless_column, column_up_to, avoids_at, unforced_start, loose_need, step_at}
use Rattle.flow_list.specs.Rows.{heights_from, amounts_in, reach, rows_to, all_rows}
use Rattle.flow_list.specs.RowHeights.{size_of, column_within}
use Rattle.flow_laws.specs.Bounds.{NeedsRise, NeedsAreSmall, NeedsAndBounds}
use Rattle.flow_list.proofs.StripBounds.{put_le, lay_all_le}
use Rattle.flow_data.proofs.BoxSums.{open_at-le}
use Rattle.flow_list.proofs.Fitting.{open_across-le, first-amounts, amounts-drop, first-height, head-start, strip-start}
use Rattle.flow_list.proofs.Fitting.{size-reach}
use Rattle.flow_list.proofs.ColumnParts.{EachFrom, steps-each, through, cut-each, last-each, stopped-each}
use Rattle.flow_laws.proofs.Needs.{AreGoodSteps, column-steps}
use Rattle.flow_laws.proofs.Places.{in-items}
use Rattle.flow_laws.proofs.SoundRows.{nests-by-number}
use Rattle.flow_laws.proofs.Totals.{sum-both, total_within, row_total, height_in, total-more, total-same, total-le}

-- ---- the reach is no more than the total

-- the heights of items are no more than those of the atoms and the totals of the rows among them
heights-total : (inner : Inner) (total : ℕ → ℕ) (q : Token) (items : List Item)
    → All (λ s. (p : Token) → inner.size s p ≤ total s) (flat_map row_in items) →
    heights_from inner q items ≤ sum_by atom_height items + sum_by total (flat_map row_in items)
heights-total inner total q [] all = omega arith
heights-total inner total q (Atom height kind ∷ items) all =
    let rest = heights-total inner total row_start items all in omega (arith, sum_by-cons atom_height (Atom height kind) items)
heights-total inner total q (Row r ∷ items) all =
    let here = all 0 r (omega arith) q in
    let rest = heights-total inner total row_start items (λ k e lt. all (suc k) e (omega arith)) in
    omega (arith, sum_by-cons atom_height (Row r) items, sum_by-cons total r (flat_map row_in items))

heights-part : (inner : Inner) (total : ℕ → ℕ) (q : Token) (n : ℕ) (items : List Item)
    → All (λ s. (p : Token) → inner.size s p ≤ total s) (flat_map row_in items) →
    heights_from inner q (drop n items) ≤ sum_by atom_height items + sum_by total (flat_map row_in items)
heights-part inner total q zero items all = heights-total inner total q items all
heights-part inner total q (suc n) [] all = omega arith
heights-part inner total q (suc n) (Atom height kind ∷ items) all = let rest = heights-part inner total q n items all
    in omega (arith, sum_by-cons atom_height (Atom height kind) items)
heights-part inner total q (suc n) (Row r ∷ items) all =
    let rest = heights-part inner total q n items (λ k e lt. all (suc k) e (omega arith))
    in omega (arith, sum_by-cons atom_height (Row r) items, sum_by-cons total r (flat_map row_in items))

pub reach-total : (inner : Inner) (d : FlowsData) (f : Flow) (total : ℕ → ℕ) (q : Token)
    → All (λ s. (p : Token) → inner.size s p ≤ total s) (rows_in f) →
    reach inner d f q ≤ flow_height d f + sum_by total (rows_in f)
reach-total inner d f total q all =
    let h = heights-part inner total (within q) (item_number q) f.items all in
    let b = sum-both (λ b. (box_of d b).top) (λ b. (box_of d b).bottom) (boxes_in f) in
    omega arith

module _ (d : FlowsData) where
  -- the size of a row is no more than all that stands in it
  pub size-total : (m r : ℕ) (q : Token) → (rows_to d m).size r q ≤ row_total d (height_in d) m r
  unfolding rows_to
  size-total zero r q = omega arith
  size-total (suc m) r q =
      let a = size-reach (rows_to d m) d r q in
      let b = reach-total (rows_to d m) d (flow_in d r) (row_total d (height_in d) m) q
      (λ k e lt p. size-total m (get_or (rows_in (flow_in d r)) k e) p) in
      let c = total-more d (height_in d) m (row_of d r).flow in
      omega arith

  -- and what a column of a flow may reach no more than all that stands in the flow
  pub all-total : (m f : ℕ) (t : Token) → reach (rows_to d m) d (flow_of d f) t ≤ total_within d (height_in d) (suc m) f
  all-total m f t =
      let b = reach-total (rows_to d m) d (flow_of d f) (row_total d (height_in d) m) t
      (λ k e lt p. size-total m (get_or (rows_in (flow_of d f)) k e) p) in
      let c = total-more d (height_in d) m f in
      omega arith

module _ (d : FlowsData) (sound : IsSound d) (r : ℕ) (lt : r < length d.rows) where
  reach-small : (t : Token) → reach (all_rows d) d (flow_in d r) t < 2 ^ 60
  unfolding all_rows
  reach-small t =
      let nests = nests-by-number d sound (length d.rows - r) r lt (omega arith) in
      let reached = all-total d (length d.rows) (row_of d r).flow t in
      let same = total-same d sound (height_in d) (length d.rows - r) r (suc (length d.rows)) (length d.rows) nests (omega arith)
      (omega arith) in
      let whole = total-le d sound r lt in
      let small = sound.heights in
      omega arith

  size-small : (q : Token) → size_of d r q < 2 ^ 60
  unfolding size_of
  size-small q = let a = size-reach (all_rows d) d r q in let b = reach-small q in omega arith

-- ---- needs, places and extents are no more than the reach

module _ (inner : Inner) (d : FlowsData) (f : Flow) (top : ℕ) where
  -- what is so of an item in a column that may reach top
  pub record IsWithinTop (s : Step) : Type 0 where
    pub need : s.need ≤ top
    pub place : s.y + s.bottoms ≤ top
    pub cut : s.y + s.height + s.bottoms ≤ top
    pub behind : (a : ℕ) → a ≤ s.height → tail_from (s.y + a) s.tail + s.bottoms_after ≤ top

  abbrev pub AllWithinTop : ℕ → List Step → Type 0
  AllWithinTop k ss = EachFrom (λ n. IsWithinTop) k ss

  -- what stands in this strip and from item k on has room, of which n items are left
  abbrev HasRoom : Strip → ℕ → Token → ℕ → Type 0
  HasRoom s k q n = (k + n ≤ length f.items)
      × (s.y + s.pending + heights_from inner q (drop k f.items) + amounts_in (drop (k + 1) f.seams) + bottoms d (boxes_in f)
      ≤ top)

  steps-within : (s : Strip) (k : ℕ) (q : Token) (n : ℕ) → HasRoom s k q n → AllWithinTop k (steps inner d f s k q n)
  steps-within = steps-each inner d f HasRoom (λ n. IsWithinTop) here next
    where
      here : (s : Strip) (k : ℕ) (q : Token) (n : ℕ) → HasRoom s k q (suc n) → IsWithinTop (step_at inner d f s k q)
      here s k q n b =
          let le = b.0 in
          let all = b.1 in
          let in_items : k < length f.items = omega arith in
          let high = first-height inner q f.items k in
          let seam = first-amounts f.seams (k + 1) in
          let a = put_le s (height_of inner (item_of f k) q) in
          let c = lay_all_le (put s (height_of inner (item_of f k) q)) (seam_of f (k + 1)).tail in
          let below : bottoms d (open_across f (k + 1)) ≤ bottoms d (boxes_in f) = open_across-le _ f (k + 1) in
          let at : bottoms d (open_at f k) ≤ bottoms d (boxes_in f) = open_at-le _ f k in
          record {
            need = omega arith;
            place = omega arith;
            cut = omega arith;
            behind = λ h low. let t = lay_all_le (strip_at (s.y + s.pending + h) false) (seam_of f (k + 1)).tail in omega arith;
          }

      next : (s : Strip) (k : ℕ) (q : Token) (n : ℕ) → HasRoom s k q (suc n)
          → HasRoom (lay_all (strip_behind inner f s k q) (seam_of f (k + 1)).head) (k + 1) row_start n
      next s k q n b =
          let le = b.0 in
          let all = b.1 in
          let in_items : k < length f.items = omega arith in
          let high = first-height inner q f.items k in
          let seam = first-amounts f.seams (k + 1) in
          let a = put_le s (height_of inner (item_of f k) q) in
          let c = lay_all_le (put s (height_of inner (item_of f k) q)) (seam_of f (k + 1)).tail in
          let m = lay_all_le (strip_behind inner f s k q) (seam_of f (k + 1)).head in
          (omega arith, omega arith)

  pub within-reach : (t : Token) → item_number t < length f.items → reach inner d f t ≤ top
      → AllWithinTop (item_number t) (steps_from inner d f t)
  within-reach t lt b =
      let a = strip-start d f t in
      let e = first-amounts f.seams (item_number t) in
      let l = amounts-drop f.seams (item_number t) in
      steps-within (start_strip d f t) (item_number t) (within t) (length f.items - item_number t) (omega arith, omega arith)

  -- an item alone after an unforced break is within it too
  pub loose-reach : (k : ℕ) → k < length f.items → reach inner d f (k ∷ []) ≤ top → loose_need inner d f k ≤ top
  unfolding steps
  loose-reach k lt b =
      let a = head-start d f true k in
      let e = first-amounts f.seams k in
      let l = amounts-drop f.seams k in
      (steps-within (unforced_start d f k) k row_start 1 (omega arith, omega arith)).0.need

  -- ---- places

  abbrev IsReach : Place → Type 0
  IsReach p = p.extent ≤ top

  seams-reach : (need k : ℕ) (ss : List Step) → need ≤ top → AllWithinTop k ss → Each IsReach (seams_before need ss)
  seams-reach need k [] le all = tt
  seams-reach need k (s ∷ ss) le all = (le, seams-reach s.need (k + 1) ss all.0.need all.1)

  between-reach : (k : ℕ) (ss : List Step) → AllWithinTop k ss → Each IsReach (seams_between ss)
  between-reach k [] all = tt
  between-reach k (s ∷ ss) all = seams-reach s.need (k + 1) ss all.0.need all.1

  last-reach : (p : Place) (k : ℕ) (ss : List Step) → p.extent ≤ top → AllWithinTop k ss → (last_place p ss).extent ≤ top
  last-reach p k [] le all = le
  last-reach p k (s ∷ ss) le all = last-reach (record { level = 0; end = (s.item + 1) ∷ []; extent = s.need; overflow = false })
      (k + 1) ss all.0.need all.1

  inside-reach : (avoids : Bool) (s : Step) (a : ℕ) (filled : Filled) → IsWithinTop s → a ≤ s.height
      → (inside_place avoids s a filled).extent ≤ top
  inside-reach avoids s a filled w le = go filled.at_end
    where
      go : (b : Bool) → cond b (tail_from (s.y + a) s.tail + s.bottoms_after) (s.y + a + s.bottoms) ≤ top
      go true = w.behind a le
      go false = let c = w.cut in omega arith

  up_to-reach : (avoids : ℕ → Bool) (h k : ℕ) (before : List Step) (stop : Option Step) → AllWithinTop k (through before stop)
      → (column_up_to inner avoids h before stop).extent ≤ top
  up_to-reach avoids h k before None all = last-reach no_place k before (omega arith) all
  up_to-reach avoids h k before (Some s) all =
      let last = last-each (λ n. IsWithinTop) k before s all in
      stopped-each IsReach inner (avoids s.item) h s before s.row (between-reach k (before ++ s ∷ []) all) (λ which. last.need)
      (λ row over is low. inside-reach (avoids s.item) s (room s h) (inner.fill row.0 row.1 (room s h)) last (omega arith))

  pub column-reach : (t : Token) (h : ℕ) → item_number t < length f.items → reach inner d f t ≤ top
      → (column inner d f t h).extent ≤ top
  unfolding column
  column-reach t h lt le =
      up_to-reach (avoids_at d f) h (item_number t) (cut h (steps_from inner d f t)).before (cut h (steps_from inner d f t)).stop
      (cut-each (λ n. IsWithinTop) h (item_number t) (steps_from inner d f t) (within-reach t lt le))

  pub endless-reach : (t : Token) → item_number t < length f.items → reach inner d f t ≤ top
      → (endless_column inner d f t).extent ≤ top
  unfolding endless_column
  endless-reach t lt le = last-reach no_place (item_number t) (steps_from inner d f t) (omega arith) (within-reach t lt le)

  pub needs-small : (k : ℕ) (ss : List Step) → top < 2 ^ 60 → AllWithinTop k ss → NeedsAreSmall ss
  needs-small k [] small all = tt
  needs-small k (s ∷ ss) small all = let a = all.0.need in let b = all.0.place
      in (omega arith, omega arith, needs-small (k + 1) ss small all.1)

  -- where a row is cut, and the tail of the seam after it
  pub cuts-small : (k : ℕ) (ss : List Step) → top < 2 ^ 60 → AllWithinTop k ss →
      Each (λ (s : Step). (a : ℕ) → a ≤ s.height → (s.y + a + s.bottoms < 2 ^ 60)
      × (tail_from (s.y + a) s.tail + s.bottoms_after < 2 ^ 60)) ss
  cuts-small k [] small all = tt
  cuts-small k (s ∷ ss) small all = (
    λ a le. ((let c = all.0.cut in omega arith), (let b = all.0.behind a le in omega arith)),
    cuts-small (k + 1) ss small all.1,
  )

-- at a height or without end
pub extent-le : (d : FlowsData) (f : Flow) (top : ℕ) (h : Option ℕ) (t : Token) → item_number t < length f.items
    → reach (all_rows d) d f t ≤ top → (column_within d f h t).extent ≤ top
extent-le d f top None t lt le = endless-reach (all_rows d) d f top t lt le
extent-le d f top (Some h) t lt le = column-reach (all_rows d) d f top t h lt le

-- ---- the law

pub needs-rise : (inner : Inner) (d : FlowsData) (f : Flow) (sound : IsSoundFlow d f) (k base prev : ℕ) (ss : List Step) →
    AreGoodSteps inner d f sound k base prev ss → NeedsRise prev ss
needs-rise inner d f sound k base prev [] good = tt
needs-rise inner d f sound k base prev (s ∷ ss) good =
    (good.0.rises, needs-rise inner d f sound (k + 1) (base + atom_height (item_of f k)) s.need ss good.1)

pub needs-and-bounds : (d : FlowsData) → IsSound d → (r : ℕ) → r < length d.rows → NeedsAndBounds d r
needs-and-bounds d sound r lt =
    let flow = let row = sound.rows r no_row lt in sound.flows (row_of d r).flow no_flow row.flow in
    record {
      needs_never_fall = λ t place. needs-rise (all_rows d) d (flow_in d r) flow (item_number t) 0 0
          (steps_from (all_rows d) d (flow_in d r) t) (column-steps (all_rows d) d (flow_in d r) flow t place);
      needs_are_small = λ t place. needs-small (all_rows d) d (flow_in d r) (reach (all_rows d) d (flow_in d r) t) (item_number t)
          (steps_from (all_rows d) d (flow_in d r) t) (reach-small d sound r lt t)
          (within-reach (all_rows d) d (flow_in d r) (reach (all_rows d) d (flow_in d r) t) t (in-items d (flow_in d r) t place)
          (omega arith));
      loose_needs_are_small = λ k known.
          let a = loose-reach (all_rows d) d (flow_in d r) (reach (all_rows d) d (flow_in d r) (k ∷ [])) k known (omega arith) in
          let b = reach-small d sound r lt (k ∷ []) in
          omega arith;
      sizes_are_small = size-small d sound r lt;
      extents_are_small = λ t h place.
          let a = extent-le d (flow_in d r) (reach (all_rows d) d (flow_in d r) t) h t (in-items d (flow_in d r) t place)
          (omega arith) in
          let b = reach-small d sound r lt t in
          omega arith;
    }
