-- Places have few numbers, and there are few columns.
use Rattle.std.proofs.Common.{◌≡◌, ℕ, zero, suc, ◌-◌, ◌*◌, ◌<◌, ◌≤◌, true, false, not, ◌&&◌, [], ◌∷◌, length, get_or, Option}
use Rattle.std.proofs.Common.{Some, sym, ◌∙◌, ap, arith, ◌⊎◌, inl, inr, mul-le-mul_left, mul-one}
use Rattle.std.specs.Prelude.{nat_le}
use Rattle.std.specs.List.{list_any}
use Rattle.std.proofs.lemmas.Bool.{cases_lt}
use Rattle.flow_data.specs.declared.data.Flow.{Flow}
use Rattle.flow_data.specs.declared.data.FlowsData.{FlowsData}
use Rattle.flow_data.specs.Flows.{row_of, flow_in, rows_in, no_row}
use Rattle.flow_data.specs.Soundness.{IsSound, NestsAtMost}
use Rattle.flow_list.specs.Tokens.{Token, item_number, within, is_end, IsPlaceBefore}
use Rattle.flow_list.specs.Column.{column}
use Rattle.flow_list.specs.Rows.{end_of, fails, most_columns, fits, left_in, rows_to, all_rows}
use Rattle.flow_list.specs.RowHeights.{column_within}
use Rattle.flow_list.specs.Certificate.{columns_from}
use Rattle.flow_list.specs.Fragments.{column_fragment, fragments_from, row_fragments}
use Rattle.flow_laws.specs.Progress.{first_columns, IsLater}
use Rattle.flow_laws.proofs.HeldSums.{count_in, row-count, counts-le, items-part}
use Rattle.flow_laws.proofs.RowsAdvance.{column-is-later, fill-is-later, columns-reach}
use Rattle.flow_laws.proofs.SoundRows.{rows-of-data, some-column, nests-by-number}
use Rattle.flow_laws.proofs.Totals.{row_total, total-more, total-same, total-up}
use Rattle.column_laws.specs.Following.{columns_of_fills, fragments_of_fills}
use Rattle.column_laws.specs.Counting.{PlacesAreShort, ColumnsAreFew}
use Rattle.column_laws.proofs.Depths.{fragments-are}
use Rattle.column_laws.proofs.Following.{at-most, no-more, few-reach, fills-make, fragments-of}
use Rattle.column_laws.proofs.Uses.{rows-at}

pub places-are-short : (d : FlowsData) → PlacesAreShort d
places-are-short d zero r q nests place = absurd nests
places-are-short d (suc n) r [] nests place = absurd place
places-are-short d (suc n) r (i ∷ []) nests place = omega arith
places-are-short d (suc n) r (i ∷ (j ∷ rest)) nests place =
    let inner = places-are-short d n place.1 (j ∷ rest)
    (rows-at (NestsAtMost d n) (flow_in d r).items nests i place.1 place.2) place.3 in
    omega arith

-- so does a later place
later-is-short : (d : FlowsData) (n r : ℕ) (t u : Token) → NestsAtMost d n r → IsLater d r t u → length u ≤ n
later-is-short d zero r t u nests later = absurd nests
later-is-short d (suc n) r t u nests later = go later.place
  where
    go : (u ≡ length (flow_in d r).items ∷ []) ⊎ IsPlaceBefore d (flow_in d r) u → length u ≤ suc n
    go (inl e) = let one = ap length e in omega arith
    go (inr place) = places-are-short d (suc n) r u nests place

module _ (d : FlowsData) (sound : IsSound d) where
  -- ---- items left

  left-within : (m r : ℕ) (q : Token) → r < length d.rows → (rows_to d m).left r q ≤ row_total d (count_in d) m r
  unfolding rows_to
  left-within zero r q lt = omega arith
  left-within (suc m) r q lt =
      let range = rows-of-data d sound (row_of d r).flow (sound.rows r no_row lt).flow in
      let part = items-part (rows_to d m) (row_total d (count_in d) m) (within q) (item_number q) (flow_in d r).items
      (λ k e in_rows p. left-within m (get_or (rows_in (flow_in d r)) k e) p (range k e in_rows)) in
      let more = total-more d (count_in d) m (row_of d r).flow in
      let own = row-count d sound r lt in
      omega arith

  left-small : (r : ℕ) (t : Token) → r < length d.rows → left_in (all_rows d) (flow_in d r) t ≤ 100000
  unfolding all_rows rows_to
  left-small r t lt =
      let some : left_in (rows_to d (length d.rows)) (flow_in d r) t ≤ row_total d (count_in d) (suc (length d.rows)) r =
      left-within (suc (length d.rows)) r t lt in
      let same = total-same d sound (count_in d) (length d.rows - r) r (suc (length d.rows)) (length d.rows)
      (nests-by-number d sound (length d.rows - r) r lt (omega arith)) (omega arith) (omega arith) in
      let whole = total-up d sound (count_in d) r lt in
      let counts = counts-le d sound in
      let limit = sound.item_limit in
      omega arith

  -- ---- columns

  module _ (r : ℕ) (lt : r < length d.rows) where
    abbrev f : Flow
    f = flow_in d r

    abbrev left : Token → ℕ
    left t = left_in (all_rows d) f t

    few : (n : ℕ) (t : Token) (h : Option ℕ) → IsPlaceBefore d f t → length (first_columns d r n t h) ≤ left t
    few n t h place = go (cases_lt n (left t))
      where
        go : (n < left t) ⊎ (left t ≤ n) → length (first_columns d r n t h) ≤ left t
        go (inl less) = let most = at-most (column_within d f h) f n t in omega arith
        go (inr le) =
            let same = no-more (column_within d f h) f (left t) n t le
            (columns-reach d sound r lt (left t) t h place (omega arith)) in
            let most = at-most (column_within d f h) f (left t) t in
            let count = ap length same in
            omega arith

    all-reach : (q : Token) (h : ℕ) → IsPlaceBefore d f q → is_end f (end_of q (columns_from d r q h)) ≡ true
    all-reach q h place = columns-reach d sound r lt (left q) q (Some h) place (omega arith)

    fits-all : (q : Token) (h : ℕ) → IsPlaceBefore d f q → fits (all_rows d) d r q h
        ≡ (nat_le (length (columns_from d r q h)) (most_columns (row_of d r).n f q) && not
        (list_any fails (columns_from d r q h)))
    unfolding fits
    fits-all q h place = few-reach (λ t. column (all_rows d) d f t h) f (most_columns (row_of d r).n f q) (left q) q
        (all-reach q h place)

    by-fills : (n : ℕ) (q : Token) (h : ℕ) → IsPlaceBefore d f q → left q ≤ n →
        columns_of_fills (all_rows d) d r n q h ≡ columns_from d r q h
    by-fills n q h place le =
        let some = some-column d sound r lt in
        let many : n * 1 ≤ n * (row_of d r).n = mul-le-mul_left n (omega arith) in
        let one = mul-one n in
        fills-make (all_rows d) d r n q h ∙ no-more (λ t. column (all_rows d) d f t h) f (left q) (n * (row_of d r).n) q
        (omega arith) (all-reach q h place)

    whole-fills : (n : ℕ) (q : Token) (height h : ℕ) → IsPlaceBefore d f q → left q ≤ n →
        row_fragments d (length d.rows) (record { row = r; from = q; height = height; made_at = Some h; filled = false })
        ≡ fragments_of_fills (column_fragment d r (Some h)) (all_rows d) d r n q h
    unfolding column_fragment
    whole-fills n q height h place le =
        fragments-are d sound (length d.rows)
        (record { row = r; from = q; height = height; made_at = Some h; filled = false }) lt (omega arith)
        ∙ ap (fragments_from (column_fragment d r (Some h)) q) (sym (by-fills n q h place le))
        ∙ sym (fragments-of (all_rows d) d r (column_fragment d r (Some h)) n q h)

pub columns-are-few : (d : FlowsData) → IsSound d → (r : ℕ) → r < length d.rows → ColumnsAreFew d r
columns-are-few d sound r lt = record {
  ends_are_short = λ n t h nests place. later-is-short d n r t (column_within d (flow_in d r) h t).end nests
      (column-is-later d sound r lt t h place);
  fills_are_short = λ n t h nests place. later-is-short d n r t ((all_rows d).fill r t h).end nests
      (fill-is-later d sound r lt t h place);
  no_more_than_left = few d sound r lt;
  left_is_small = λ t. let small = left-small d sound r t lt in omega arith;
  fits_by_all = fits-all d sound r lt;
  all_by_fills = by-fills d sound r lt;
  whole_by_fills = whole-fills d sound r lt;
}
