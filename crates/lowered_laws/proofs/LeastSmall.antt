-- The least height of a piece of a row is below 2^60: at heights that no column reaches only forced breaks remain, so all of
-- them do alike.
use Rattle.std.proofs.Common.{◌≡◌, ℕ, zero, suc, ◌+◌, ◌-◌, ◌<◌, ◌≤◌, ◌^◌, max, Bool, true, false, ◌||◌, List, []}
use Rattle.std.proofs.Common.{◌∷◌, length, refl, sym, ap, ◌∙◌, arith, ◌⊎◌, inl, inr}
use Rattle.std.specs.Prelude.{fold, nat_le}
use Rattle.std.specs.List.{list_any, AllByRecursion as Each}
use Rattle.std.proofs.lemmas.Bool.{cases_lt}
use Rattle.std.proofs.lemmas.Bool.Decides.{nat_tests}
use Rattle.flow_list.specs.Data.{Flow, FlowsData}
use Rattle.flow_data.specs.Flows.{row_of, flow_in, seam_of}
use Rattle.flow_data.specs.Soundness.{IsSound}
use Rattle.flow_list.specs.Tokens.{Token, item_number, is_end}
use Rattle.flow_list.specs.Certificate.{same_token}
use Rattle.flow_list.specs.Column.{Column, is_forced, column}
use Rattle.flow_list.specs.Rows.{reach, columns, columns_by, end_of, fill_in, rows_to, all_rows}
use Rattle.flow_laws.specs.LeastHeight.{IsNextForced, EndsAtForced}
use Rattle.flow_laws.proofs.Exists.{sizes-least}
use Rattle.flow_laws.proofs.RowHeightBounds.{columns-each}
use Rattle.flow_laws.proofs.Small.{all-total}
use Rattle.flow_laws.proofs.SoundRows.{nests-by-number}
use Rattle.flow_laws.proofs.Totals.{total_within, height_in, total-rises, total-same, total-le}
use Rattle.piece_data.specs.LeastPiece.{will_do, cut_piece, least_height}
use Rattle.piece_data.proofs.Pieces.{piece-holds}
use Rattle.piece_data.proofs.Reasons.{token-itself}

-- ---- the next forced seam is one

no-two : (f : Flow) (i a b : ℕ) → IsNextForced f i a → IsNextForced f i b → a < b → ⊥
no-two f i a b x y lt = go x.forced
  where
    go : (a ≡ length f.items) ⊎ (is_forced (seam_of f a).level ≡ true) → ⊥
    go (inl end) = let within = y.within in absurd (omega arith)
    go (inr forced) = let unforced = y.unforced a x.above lt in absurd cc

one-next : (f : Flow) (i a b : ℕ) → IsNextForced f i a → IsNextForced f i b → a ≡ b
one-next f i a b x y = go (cases_lt a b) (cases_lt b a)
  where
    go : (a < b) ⊎ (b ≤ a) → (b < a) ⊎ (a ≤ b) → a ≡ b
    go (inl lt) other = absurd (no-two f i a b x y lt)
    go (inr le) (inl lt) = absurd (no-two f i b a y x lt)
    go (inr le) (inr ge) = omega arith

-- ---- columns that break no rule

abbrev IsFine : Column → Type 0
IsFine c = (c.overflow ≡ false) × (c.level ≡ 0)

no-level : (cs : List Column) → Each IsFine cs → fold (λ worst (c : Column). max worst c.level) 0 cs ≡ 0
no-level [] all = refl
no-level (c ∷ cs) all =
    let level = all.0.1 in
    let none : max 0 c.level ≡ 0 = omega arith in
    rw none (no-level cs all.1)

no-overflow : (cs : List Column) → Each IsFine cs → list_any (λ (c : Column). c.overflow) cs ≡ false
no-overflow [] all = refl
no-overflow (c ∷ cs) all = go c.overflow all.0.0 (no-overflow cs all.1)
  where
    go : (b : Bool) → b ≡ false → list_any (λ (c : Column). c.overflow) cs ≡ false
        → (b || list_any (λ (c : Column). c.overflow) cs) ≡ false
    go true e rest = cc
    go false e rest = rest

module _ (d : FlowsData) (sound : IsSound d) (r : ℕ) (lt : r < length d.rows) where
  -- ---- what a column of a row may reach

  rises : (k m f : ℕ) → total_within d (height_in d) m f ≤ total_within d (height_in d) (k + m) f
  rises zero m f = let e : 0 + m ≡ m = omega arith in rw e (omega arith)
  rises (suc k) m f =
      let a = rises k m f in
      let b = total-rises d (height_in d) (k + m) f in
      let e : suc k + m ≡ suc (k + m) = omega arith in
      rw e (omega arith)

  pub reach-small : (m : ℕ) → m ≤ length d.rows → (t : Token) → reach (rows_to d m) d (flow_in d r) t < 2 ^ 60
  reach-small m le t =
      let nests = nests-by-number d sound (length d.rows - r) r lt (omega arith) in
      let reached = all-total d m (row_of d r).flow t in
      let more = rises (length d.rows - m) (suc m) (row_of d r).flow in
      let deep : length d.rows - m + suc m ≡ suc (length d.rows) = omega arith in
      let more' = rw deep at more in
      let same = total-same d sound (height_in d) (length d.rows - r) r (suc (length d.rows)) (length d.rows) nests (omega arith)
      (omega arith) in
      let whole = total-le d sound r lt in
      let small = sound.heights in
      omega arith

  -- ---- columns at heights that none of them reaches

  IsHigh : ℕ → Type 0
  IsHigh h = 2 ^ 60 ≤ h + 1

  at-forced : (h : ℕ) → IsHigh h → (t : Token) → item_number t < length (flow_in d r).items
      → EndsAtForced (flow_in d r) (item_number t) (column (all_rows d) d (flow_in d r) t h)
  unfolding IsHigh all_rows
  at-forced h high t before =
      let low = reach-small (length d.rows) (omega arith) t in
      (sizes-least (all_rows d) d).only_forced_remain (flow_in d r) t h before (omega arith)

  all-fine : (h : ℕ) → IsHigh h → (n : ℕ) (t : Token) → Each IsFine (columns (all_rows d) d (flow_in d r) n t h)
  all-fine h high n t =
      columns-each IsFine (λ q. column (all_rows d) d (flow_in d r) q h) (flow_in d r) n t
      (λ q before. let at = at-forced h high q before in (at.overflow, at.level))

  same-column : (h k : ℕ) → IsHigh h → IsHigh k → (t : Token) → item_number t < length (flow_in d r).items
      → (column (all_rows d) d (flow_in d r) t h).end ≡ (column (all_rows d) d (flow_in d r) t k).end
  same-column h k high high' t before =
      let a = (at-forced h high t before).end in
      let b = (at-forced k high' t before).end in
      a.1 ∙ ap (λ (e : ℕ). e ∷ []) (one-next (flow_in d r) (item_number t) a.0 b.0 a.2 b.2) ∙ sym b.1

  same-end : (h k : ℕ) → IsHigh h → IsHigh k → (n : ℕ) (t : Token)
      → end_of t (columns (all_rows d) d (flow_in d r) n t h) ≡ end_of t (columns (all_rows d) d (flow_in d r) n t k)
  unfolding columns_by
  same-end h k high high' zero t = refl
  same-end h k high high' (suc n) t = go (is_end (flow_in d r) t) refl (same-end h k high high' n)
    where
      c : Column
      c = column (all_rows d) d (flow_in d r) t h

      x : Column
      x = column (all_rows d) d (flow_in d r) t k

      more : ((q : Token) → end_of q (columns (all_rows d) d (flow_in d r) n q h)
          ≡ end_of q (columns (all_rows d) d (flow_in d r) n q k))
          → c.end ≡ x.end → end_of c.end (columns (all_rows d) d (flow_in d r) n c.end h)
          ≡ end_of x.end (columns (all_rows d) d (flow_in d r) n x.end k)
      more same e = same c.end ∙ ap (λ q. end_of q (columns (all_rows d) d (flow_in d r) n q k)) e

      go : (b : Bool) → is_end (flow_in d r) t ≡ b →
          ((q : Token) → end_of q (columns (all_rows d) d (flow_in d r) n q h)
          ≡ end_of q (columns (all_rows d) d (flow_in d r) n q k)) →
          end_of t (elim b [ true ↦ [] | false ↦ c ∷ columns (all_rows d) d (flow_in d r) n c.end h ])
          ≡ end_of t (elim b [ true ↦ [] | false ↦ x ∷ columns (all_rows d) d (flow_in d r) n x.end k ])
      go true e same = refl
      go false e same =
          let before : item_number t < length (flow_in d r).items = grind (arith, nat_tests) in
          more same (same-column h k high high' t before)

  -- so all of them do in place of each other
  fine-above : (q : Token) (h : ℕ) → IsHigh h → (cut_piece d r q h).overflow ≡ false
  unfolding fill_in
  fine-above q h high = no-overflow (columns (all_rows d) d (flow_in d r) (row_of d r).n q h) (all-fine h high (row_of d r).n q)

  level-above : (q : Token) (h : ℕ) → IsHigh h → (cut_piece d r q h).level ≡ 0
  unfolding fill_in
  level-above q h high = no-level (columns (all_rows d) d (flow_in d r) (row_of d r).n q h) (all-fine h high (row_of d r).n q)

  end-above : (q : Token) (h k : ℕ) → IsHigh h → IsHigh k → (cut_piece d r q h).end ≡ (cut_piece d r q k).end
  unfolding fill_in
  end-above q h k high high' = same-end h k high high' (row_of d r).n q

  does-above : (q : Token) (a h : ℕ) → IsHigh a → IsHigh h → will_do (cut_piece d r q a) (cut_piece d r q h) ≡ true
  does-above q a h high high' =
      let level = level-above q h high' in
      let le : nat_le (cut_piece d r q h).level (cut_piece d r q a).level ≡ true = grind (arith, nat_tests) in
      let end : same_token (cut_piece d r q h).end (cut_piece d r q a).end ≡ true =
      rw (end-above q h a high' high) (token-itself (cut_piece d r q a).end) in
      rw (fine-above q h high', le, end) refl

  pub least-small : (q : Token) (a : ℕ) → least_height d r q a < 2 ^ 60
  unfolding IsHigh
  least-small q a = go (cases_lt a (2 ^ 60))
    where
      least : 2 ^ 60 ≤ a → (2 ^ 60 - 1 < least_height d r q a) ⊎ (least_height d r q a ≤ 2 ^ 60 - 1)
          → least_height d r q a < 2 ^ 60
      least high (inr le) = omega arith
      least high (inl above) =
          let does = does-above q a (2 ^ 60 - 1) (omega arith) (omega arith) in
          let not = ((piece-holds d r q a).least (fine-above q a (omega arith))).none_below (2 ^ 60 - 1) above in
          absurd cc

      go : (a < 2 ^ 60) ⊎ (2 ^ 60 ≤ a) → least_height d r q a < 2 ^ 60
      go (inl low) = let le = (piece-holds d r q a).no_higher in omega arith
      go (inr high) = least high (cases_lt (2 ^ 60 - 1) (least_height d r q a))
