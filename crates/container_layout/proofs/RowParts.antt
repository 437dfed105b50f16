-- The columns, the height, the fragments and the uses of a row directly in a stack.
use Rattle.std.proofs.Common.{◌≡◌, ℕ, suc, ◌-◌, ◌^◌, ◌<◌, ◌≤◌, Bool, true, false, cond, List, [], ◌∷◌, ◌++◌, length, Option}
use Rattle.std.proofs.Common.{Some, None, refl, sym, ◌∙◌, ap, arith, ◌⊎◌, inl, inr, All}
use Rattle.std.proofs.lemmas.Bool.{cases_lt}
use Rattle.std.proofs.lemmas.Bool.Decides.{nat_tests}
use Rattle.mc_base.specs.PlainTree.{PlainTree, plain_trees, row_piece, column as column_tree}
use Rattle.flow_data.specs.Soundness.{IsSound, NestsAtMost}
use Rattle.flow_data.specs.Flows.{flow_in, no_row, row_of, rows_in}
use Rattle.flow_list.specs.Data.{Flow, FlowsData}
use Rattle.flow_list.specs.Certificate.{row_ranges, row_uses, uses_of, columns_from, range_uses}
use Rattle.flow_list.specs.Column.{Column, ColumnLine, Inner, Step, avoids_at, column, column_up_to, cut, endless_column}
use Rattle.flow_list.specs.Column.{steps_from}
use Rattle.flow_list.specs.Column.{unstopped}
use Rattle.flow_list.specs.Fragments.{all_trees, column_fragment, column_made, fragments_from, laid_start, laid_to, places_in}
use Rattle.flow_list.specs.Fragments.{row_fragments, stop_of}
use Rattle.flow_list.specs.Ranges.{ranges}
use Rattle.flow_list.specs.RowHeights.{any_unforced, balanced_fits, balanced_height, columns_of_row, fill_limit, filled_height}
use Rattle.flow_list.specs.RowHeights.{filled_to, greatest_extent, row_columns, row_height, size_of}
use Rattle.flow_list.specs.Rows.{all_rows, columns, columns_by, left_in, reach, reach_end}
use Rattle.flow_list.specs.Tokens.{Token, IsPlace, is_end, row_start}
use Rattle.flow_list.proofs.Fitting.{columns-endless, columns_by-past, reach-endless}
use Rattle.flow_laws.proofs.RowsAdvance.{columns-advance}
use Rattle.column_laws.proofs.Bounds.{reach-small}
use Rattle.column_laws.proofs.Counting.{columns-are-few}
use Rattle.column_laws.proofs.Depths.{rows-are-told}
use Rattle.column_laws.proofs.Following.{columns-follow}
use Rattle.std.specs.List.{flat_map}
use Rattle.balancer.specs.Balancing.{balanced_uses}
use Rattle.inner_rows.specs.Filling.{row_tree}
use Rattle.container_layout.specs.Laid.{columns_in, in_stack, piece_in_stack, row_fits}
use Rattle.container_layout.proofs.FilledHeights.{filled-is}

-- a flow's start is a place in it
pub start-place : (d : FlowsData) (f : Flow) → IsPlace d f row_start
start-place d f = go (cases_lt 0 (length f.items))
  where
    go : (0 < length f.items) ⊎ (length f.items ≤ 0) → IsPlace d f row_start
    go (inl some) = inr some
    go (inr none) = let e : 0 ≡ length f.items = omega arith in inl (ap (λ n. n ∷ []) e)

fragments-same : (make other : Token → PlainTree) → ((t : Token) → make t ≡ other t) → (t : Token) (cs : List Column) →
    fragments_from make t cs ≡ fragments_from other t cs
fragments-same make other same t [] = refl
fragments-same make other same t (c ∷ cs) =
    ap (λ x. x ∷ fragments_from make c.end cs) (same t) ∙ ap (λ xs. other t ∷ xs) (fragments-same make other same c.end cs)

abbrev first_stop : List ColumnLine → Option ℕ
first_stop [] = None
first_stop (line ∷ lines) = line.stop

-- ---- columns without end

-- at a height that no column reaches, a column has no stop
no-stop : (inner : Inner) (d : FlowsData) (f : Flow) (t : Token) (h : ℕ) → reach inner d f t ≤ h →
    stop_of inner d f t (Some h) ≡ None
unfolding column endless_column
no-stop inner d f t h le = go (cut h ss).stop refl
  where
    ss : List Step
    ss = steps_from inner d f t

    go : (stop : Option Step) → (cut h ss).stop ≡ stop → (cut h ss).stop ≡ None
    go None e = e
    go (Some s) e =
        let here : column_up_to inner (avoids_at d f) h (cut h ss).before (Some s) ≡ unstopped ss =
        ap (column_up_to inner (avoids_at d f) h (cut h ss).before) (sym e) ∙ reach-endless inner d f t h le in
        let stops : Some s.item ≡ None = ap (λ (c : Column). first_stop c.lines) here in
        absurd (cc)

module _ (d : FlowsData) (r : ℕ) (h : ℕ) where
  abbrev f : Flow
  f = flow_in d r

  laid-same : (t e : Token) → laid_to (all_rows d) d f t None None e ≡ laid_to (all_rows d) d f t (Some h) None e
  laid-same t [] = refl
  laid-same t (e ∷ []) = refl
  laid-same t (e ∷ (j ∷ rest)) = refl

  -- and its fragment is that of the column without end
  endless-fragment : (t : Token) → reach (all_rows d) d f t ≤ h → column_fragment d r None t ≡ column_fragment d r (Some h) t
  unfolding column_fragment
  endless-fragment t le =
      let rf = row_fragments d (length d.rows) in
      let tree : Column → Option ℕ → Option Step → PlainTree = λ c h stop. column_tree (row_of d r).flow t c.end c.extent
      (plain_trees (all_trees rf (places_in d f t (laid_start d f t ++ laid_to (all_rows d) d f t h stop c.end)))) in
      let c = column (all_rows d) d f t h in
      ap (λ c. tree c None None) (sym (reach-endless (all_rows d) d f t h le))
      ∙ ap (λ laid. column_tree (row_of d r).flow t c.end c.extent
      (plain_trees (all_trees rf (places_in d f t (laid_start d f t ++ laid))))) (laid-same t c.end)
      ∙ ap (tree c (Some h)) (sym (no-stop (all_rows d) d f t h le))

-- ---- the columns of a row

module _ (d : FlowsData) (sound : IsSound d) (r : ℕ) (known : r < length d.rows) where
  pub row-flow : (row_of d r).flow < length d.flows
  row-flow = (sound.rows r no_row known).flow

  -- the rows in it nest one less deep
  pub inner-nests : (depth : ℕ) → depth ≡ 2 → All (NestsAtMost d depth) (rows_in (flow_in d r))
  inner-nests depth is = rw is (sound.nest_limit r known)

  abbrev left : ℕ
  left = left_in (all_rows d) (flow_in d r) row_start

  pub left-small : left ≤ 4294967295
  left-small = let small = (columns-are-few d sound r known).left_is_small row_start in omega arith

  -- as many columns as there are items left reach the end, and there are no more
  more-columns : (most h : ℕ) → left ≤ most →
      columns (all_rows d) d (flow_in d r) most row_start h ≡ columns (all_rows d) d (flow_in d r) left row_start h
  more-columns most h le = go (cases_lt 0 (length (flow_in d r).items))
    where
      make : Token → Column
      make q = column (all_rows d) d (flow_in d r) q h

      go : (0 < length (flow_in d r).items) ⊎ (length (flow_in d r).items ≤ 0) →
          columns (all_rows d) d (flow_in d r) most row_start h ≡ columns (all_rows d) d (flow_in d r) left row_start h
      go (inl some) = (columns-follow (λ q. column (all_rows d) d (flow_in d r) q h) (flow_in d r)).no_more left most row_start le
          ((columns-advance d sound r known).columns_end left row_start (Some h) some (omega arith))
      go (inr none) =
          let e : is_end (flow_in d r) row_start ≡ true = grind (arith, nat_tests) in
          columns_by-past (λ q. column (all_rows d) d (flow_in d r) q h) (flow_in d r) most row_start e
          ∙ sym (columns_by-past (λ q. column (all_rows d) d (flow_in d r) q h) (flow_in d r) left row_start e)

  -- the columns of a row with `column-fill: auto`
  abbrev pub filled_columns : (most : ℕ) → Option ℕ → List Column
  filled_columns most available = columns (all_rows d) d (flow_in d r) most row_start (fill_limit available)

  row-columns : (most : ℕ) (available : Option ℕ) → left ≤ most → row_columns d r available ≡ filled_columns most available
  unfolding row_columns
  row-columns most None le =
      let small = reach-small d sound (row_of d r).flow row-flow row_start in
      columns-endless (all_rows d) d (flow_in d r) (2 ^ 64 - 1) left row_start (omega arith)
      ∙ sym (more-columns most (2 ^ 64 - 1) le)
  row-columns most (Some h) le = sym (more-columns most h le)

  -- its fragments are those of its columns
  made-fragments : (height : ℕ) (made : Option ℕ) →
      columns_in d (record { row = r; from = row_start; height = height; made_at = made; filled = false })
      ≡ fragments_from (column_fragment d r made) row_start
      (columns_by (column_made (all_rows d) d (flow_in d r) made) (flow_in d r) left row_start)
  unfolding column_fragment
  made-fragments height made = (rows-are-told d sound).fragments_are (suc (length d.rows)) _ known (omega arith)

  filled-fragments : (height most : ℕ) (available : Option ℕ) → left ≤ most →
      columns_in d (record { row = r; from = row_start; height = height; made_at = available; filled = false })
      ≡ fragments_from (column_fragment d r (Some (fill_limit available))) row_start (filled_columns most available)
  filled-fragments height most None le =
      let small : (t : Token) → reach (all_rows d) d (flow_in d r) t ≤ 2 ^ 64 - 1 =
      λ t. let low = reach-small d sound (row_of d r).flow row-flow t in omega arith in
      made-fragments height None
      ∙ fragments-same (column_fragment d r None) (column_fragment d r (Some (2 ^ 64 - 1)))
      (λ t. endless-fragment d r (2 ^ 64 - 1) t (small t)) row_start _
      ∙ ap (fragments_from (column_fragment d r (Some (2 ^ 64 - 1))) row_start)
      (columns-endless (all_rows d) d (flow_in d r) (2 ^ 64 - 1) left row_start (small row_start)
      ∙ sym (more-columns most (2 ^ 64 - 1) le))
  filled-fragments height most (Some h) le =
      made-fragments height (Some h)
      ∙ ap (fragments_from (column_fragment d r (Some h)) row_start) (sym (more-columns most h le))

  -- ---- with `column-fill: auto`

  module _ (auto : (row_of d r).auto ≡ true) (available : Option ℕ) where
    auto-columns : (most : ℕ) → left ≤ most → columns_of_row d r available ≡ filled_columns most available
    unfolding columns_of_row
    auto-columns most le =
        ap (λ b. row_columns d r (cond b available (Some (balanced_height available (size_of d r row_start))))) auto
        ∙ row-columns most available le

    pub auto-height : (most extent : ℕ) (unforced : Bool) → left ≤ most → extent ≡ greatest_extent (filled_columns most
        available) →
        unforced ≡ any_unforced (flow_in d r) (filled_columns most available) →
        filled_to available extent unforced ≡ row_height d r available
    unfolding row_height
    auto-height most extent unforced le far broken =
        ap (λ x. filled_to available x unforced) far
        ∙ ap (filled_to available (greatest_extent (filled_columns most available))) broken
        ∙ sym (filled-is (flow_in d r) available (filled_columns most available))
        ∙ ap (filled_height (flow_in d r) available) (sym (row-columns most available le))
        ∙ ap (λ b. cond b (filled_height (flow_in d r) available (row_columns d r available))
        (balanced_height available (size_of d r row_start))) (sym auto)

    pub auto-fits : (most : ℕ) (fits : Bool) → left ≤ most →
        fits ≡ reach_end (flow_in d r) row_start (filled_columns most available) → fits ≡ row_fits d r available
    auto-fits most fits le is =
        is ∙ ap (reach_end (flow_in d r) row_start) (sym (auto-columns most le))
        ∙ ap (λ b. cond b (reach_end (flow_in d r) row_start (columns_of_row d r available))
        (balanced_fits available (size_of d r row_start))) (sym auto)

    pub auto-ranges : row_ranges d r available ≡ []
    auto-ranges = ap (λ b. cond b [] (ranges (all_rows d) d r row_start available)) auto

    pub auto-trees : (most : ℕ) → left ≤ most → columns_in d (in_stack d r available)
        ≡ fragments_from (column_fragment d r (Some (fill_limit available))) row_start (filled_columns most available)
    auto-trees most le =
        ap (λ b. columns_in d (record {
          row = r;
          from = row_start;
          height = row_height d r available;
          made_at = cond b available (Some (balanced_height available (size_of d r row_start)));
          filled = false;
        })) auto
        ∙ filled-fragments (row_height d r available) most available le

    pub auto-uses : (most : ℕ) → left ≤ most → row_uses d r available ≡ uses_of (filled_columns most available)
    unfolding row_uses
    auto-uses most le =
        ap (λ xs. flat_map (range_uses d r row_start) xs ++ uses_of (columns_of_row d r available)) auto-ranges
        ∙ ap uses_of (auto-columns most le)

    -- what was made, told from a place that is the start and at a height that is the limit
    pub auto-made : (most : ℕ) (q : Token) (h : ℕ) → q ≡ row_start → h ≡ fill_limit available →
        columns (all_rows d) d (flow_in d r) most q h ≡ filled_columns most available
    auto-made most q h start limit =
        ap (λ q. columns (all_rows d) d (flow_in d r) most q h) start
        ∙ ap (columns (all_rows d) d (flow_in d r) most row_start) limit

    pub auto-tree : (most : ℕ) (q : Token) (h : ℕ) → left ≤ most → q ≡ row_start → h ≡ fill_limit available →
        row_tree d r q h None (columns (all_rows d) d (flow_in d r) most q h) ≡ piece_in_stack d r available None
    auto-tree most q h le start limit =
        ap (λ q. row_tree d r q h None (columns (all_rows d) d (flow_in d r) most q h)) start
        ∙ ap (λ h. row_tree d r row_start h None (columns (all_rows d) d (flow_in d r) most row_start h)) limit
        ∙ ap (λ ts. row_piece r row_start 0 None (plain_trees ts)) (sym (auto-trees most le))

  -- ---- balanced

  module _ (balanced : (row_of d r).auto ≡ false) (available : Option ℕ) where
    pub balanced-height : balanced_height available (size_of d r row_start) ≡ row_height d r available
    unfolding row_height
    balanced-height = ap (λ b. cond b (filled_height (flow_in d r) available (row_columns d r available))
        (balanced_height available (size_of d r row_start))) (sym balanced)

    pub balanced-fitting : balanced_fits available (size_of d r row_start) ≡ row_fits d r available
    balanced-fitting = ap (λ b. cond b (reach_end (flow_in d r) row_start (columns_of_row d r available))
        (balanced_fits available (size_of d r row_start))) (sym balanced)

    pub balanced-ranges : ranges (all_rows d) d r row_start available ≡ row_ranges d r available
    balanced-ranges = ap (λ b. cond b [] (ranges (all_rows d) d r row_start available)) (sym balanced)

    pub balanced-trees : fragments_from (column_fragment d r (Some (balanced_height available (size_of d r row_start)))) row_start
        (columns_from d r row_start (balanced_height available (size_of d r row_start))) ≡ columns_in d (in_stack d r available)
    balanced-trees =
        sym (made-fragments (row_height d r available) (Some (balanced_height available (size_of d r row_start))))
        ∙ ap (λ b. columns_in d (record {
          row = r;
          from = row_start;
          height = row_height d r available;
          made_at = cond b available (Some (balanced_height available (size_of d r row_start)));
          filled = false;
        }))
        (sym balanced)

    pub balanced-used : balanced_uses d r row_start available ≡ row_uses d r available
    unfolding balanced_uses row_uses columns_of_row row_columns
    balanced-used =
        let h = balanced_height available (size_of d r row_start) in
        ap (λ b. flat_map (range_uses d r row_start) (cond b [] (ranges (all_rows d) d r row_start available))
        ++ uses_of (row_columns d r (cond b available (Some h)))) (sym balanced)

    pub balanced-tree : (q : Token) (h : ℕ) → q ≡ row_start → h ≡ balanced_height available (size_of d r row_start) →
        row_tree d r q h (Some h) (columns_from d r q h) ≡ piece_in_stack d r available (Some (row_height d r available))
    balanced-tree q h start high =
        ap (λ q. row_tree d r q h (Some h) (columns_from d r q h)) start
        ∙ ap (λ h. row_tree d r row_start h (Some h) (columns_from d r row_start h)) high
        ∙ ap (λ ts. row_piece r row_start 0 (Some (balanced_height available (size_of d r row_start))) (plain_trees ts))
        balanced-trees
        ∙ ap (λ h. piece_in_stack d r available (Some h)) balanced-height
