-- At its least bound the lines of a column change.
use Rattle.std.proofs.Common.{◌≡◌, ℕ, ◌+◌, ◌-◌, ◌<◌, ◌≤◌, ◌⊎◌, inl, inr, Bool, true, false, ◌&&◌, cond, List, [], ◌∷◌, ◌++◌}
use Rattle.std.proofs.Common.{length, map, refl, subst, sym, ◌∙◌, ap, arith, Option, Some, None}
use Rattle.std.specs.Prelude.{nat_lt, nat_le}
use Rattle.std.proofs.lemmas.Bool.{cases_lt, and_parts, and_left, and_right}
use Rattle.std.proofs.lemmas.Bool.Decides.{nat_tests}
use Rattle.flow_list.specs.Data.{Flow, FlowsData}
use Rattle.flow_list.specs.Tokens.{Token, item_number, within}
use Rattle.flow_list.specs.Column.{ColumnLine, Filled, Inner, Step, Cut, cut, steps_from, start_strip, room, is_cut, fill_in_room}
use Rattle.flow_list.specs.Column.{inner_lines, deeper, bounds_at, column, column_up_to, avoids_at}
use Rattle.flow_laws.proofs.StopStays.{cut-from, cut-room}
use Rattle.range_laws.proofs.Bounds.{Has, NoneBelow, has-one, has-rest, has-moved, below-moved}
use Rattle.range_laws.proofs.LineBlocks.{deeper-same, deeper-none}
use Rattle.range_laws.proofs.Stops.{Good, steps-good, stop_number, cut-same, cut-later, stop-good}

-- what the rows that stand in a flow make of a height changes its lines at its least bound, and has lines where the row's size
-- isn't 0
pub record FillsChange (inner : Inner) : Type 0 where
  pub fill_changes : (r : ℕ) (q : Token) (lo hi : ℕ) → lo ≤ hi → NoneBelow hi (inner.fill r q lo).bounds →
      Has hi (inner.fill r q lo).bounds →
      (inner.fill r q lo).lines ≡ (inner.fill r q hi).lines → ⊥
  pub fill_tells : (r : ℕ) (q : Token) (h : ℕ) → 0 < inner.size r q → (inner.fill r q h).lines ≡ [] → ⊥

cuts-at : (s : Step) (h : ℕ) → s.y + s.bottoms ≤ h → room s h < s.height → is_cut s h ≡ true
cuts-at s h le lt = grind (arith, nat_tests)

uncut-above : (s : Step) (h : ℕ) → h < s.y + s.bottoms → is_cut s h ≡ false
uncut-above s h lt = and_left (nat_le (s.y + s.bottoms) h) (nat_lt (room s h) s.height) (grind (arith, nat_tests))

uncut-whole : (s : Step) (h : ℕ) → s.height ≤ room s h → is_cut s h ≡ false
uncut-whole s h le = and_right (nat_le (s.y + s.bottoms) h) (nat_lt (room s h) s.height) (grind (arith, nat_tests))

-- a stop that stays: its row is taken from a place, and needs more than both heights
module _ (inner : Inner) (law : FillsChange inner) (s : Step) (row : ℕ × Token) (high : s.height ≡
    inner.size row.0 row.1) (lo hi : ℕ) (le : lo ≤ hi) where
  abbrev fill_at : ℕ → Filled
  fill_at h = inner.fill row.0 row.1 (room s h)

  -- where it is cut at just one height its lines are more there
  only-high : is_cut s lo ≡ false → is_cut s hi ≡ true → 0 < s.height →
      inner_lines (is_cut s lo) (Some (fill_at lo)) ≡ inner_lines (is_cut s hi) (Some (fill_at hi)) → ⊥
  only-high a b some same =
      let none : [] ≡ map deeper (fill_at hi).lines = sym (ap (λ c. inner_lines c (Some (fill_at lo))) a) ∙ same
      ∙ ap (λ c. inner_lines c (Some (fill_at hi))) b in
      law.fill_tells row.0 row.1 (room s hi) (omega arith) (deeper-none (fill_at hi).lines (sym none))

  only-low : is_cut s lo ≡ true → is_cut s hi ≡ false → 0 < s.height →
      inner_lines (is_cut s lo) (Some (fill_at lo)) ≡ inner_lines (is_cut s hi) (Some (fill_at hi)) → ⊥
  only-low a b some same =
      let none : map deeper (fill_at lo).lines ≡ [] = sym (ap (λ c. inner_lines c (Some (fill_at lo))) a) ∙ same
      ∙ ap (λ c. inner_lines c (Some (fill_at hi))) b in
      law.fill_tells row.0 row.1 (room s lo) (omega arith) (deeper-none (fill_at lo).lines none)

  both-cut : is_cut s lo ≡ true → is_cut s hi ≡ true → inner_lines (is_cut s lo) (Some (fill_at lo)) ≡
      inner_lines (is_cut s hi) (Some (fill_at hi)) → (fill_at lo).lines ≡ (fill_at hi).lines
  both-cut a b same =
      deeper-same (fill_at lo).lines (fill_at hi).lines (sym (ap (λ c. inner_lines c (Some (fill_at lo))) a) ∙ same
      ∙ ap (λ c. inner_lines c (Some (fill_at hi))) b)

  -- the row comes to begin within the height
  begins-here : (nat_lt 0 s.height && nat_lt lo (s.y + s.bottoms)) ≡ true → s.y + s.bottoms ≡ hi →
      inner_lines (is_cut s lo) (Some (fill_at lo)) ≡ inner_lines (is_cut s hi) (Some (fill_at hi)) → ⊥
  begins-here c at same =
      let k = (and_parts (nat_lt 0 s.height) (nat_lt lo (s.y + s.bottoms)) c).0 in
      let m = (and_parts (nat_lt 0 s.height) (nat_lt lo (s.y + s.bottoms)) c).1 in
      let some : 0 < s.height = grind (arith, nat_tests) in
      let early : lo < s.y + s.bottoms = grind (arith, nat_tests) in
      only-high (uncut-above s lo early) (cuts-at s hi (omega arith) (omega arith)) some same

  -- the row comes to fit in its room, or one of its columns changes
  cut-here : is_cut s lo ≡ true → hi ≤ s.y + s.bottoms + s.height →
      NoneBelow hi (map (λ b. s.y + s.bottoms + b) (fill_at lo).bounds) →
      ((s.y + s.bottoms + s.height) ≡ hi) ⊎ Has hi (map (λ b. s.y + s.bottoms + b) (fill_at lo).bounds) →
      inner_lines (is_cut s lo) (Some (fill_at lo)) ≡ inner_lines (is_cut s hi) (Some (fill_at hi)) → ⊥
  cut-here c top below (inl at) same =
      let from = cut-from s lo c in
      let less = cut-room s lo c in
      only-low c (uncut-whole s hi (omega arith)) (omega arith) same
  cut-here c top below (inr there) same = which (cases_lt hi (s.y + s.bottoms + s.height))
    where
      which : (hi < s.y + s.bottoms + s.height) ⊎ (s.y + s.bottoms + s.height ≤ hi) → ⊥
      which (inl lt) =
          let from = cut-from s lo c in
          let less = cut-room s lo c in
          let r : hi - (s.y + s.bottoms) ≡ room s hi = omega arith in
          law.fill_changes row.0 row.1 (room s lo) (room s hi) (omega arith)
          (subst (λ n. NoneBelow n (fill_at lo).bounds) r (below-moved (s.y + s.bottoms) hi (fill_at lo).bounds below))
          (subst (λ n. Has n (fill_at lo).bounds) r (has-moved (s.y + s.bottoms) hi (fill_at lo).bounds (omega arith) there))
          (both-cut c (cuts-at s hi (omega arith) (omega arith)) same)
      which (inr ge) = let from = cut-from s lo c in let less = cut-room s lo c in
          only-low c (uncut-whole s hi (omega arith)) (omega arith) same

  -- one of the bounds of the stop is the greater height, none is below it, and the stop needs more: its lines change
  row-changes : hi < s.need → NoneBelow hi (bounds_at s lo (Some (fill_at lo))) → Has hi (bounds_at s lo (Some (fill_at lo))) →
      inner_lines (is_cut s lo) (Some (fill_at lo)) ≡ inner_lines (is_cut s hi) (Some (fill_at hi)) → ⊥
  row-changes needs below has same = go (nat_lt 0 s.height && nat_lt lo (s.y + s.bottoms)) refl (is_cut s lo) refl below has
    where
      go : (b : Bool) → (nat_lt 0 s.height && nat_lt lo (s.y + s.bottoms)) ≡ b → (c : Bool) → is_cut s lo ≡ c →
          NoneBelow hi (s.need ∷ cond b ((s.y + s.bottoms) ∷ []) [] ++
          cond c ((s.y + s.bottoms + s.height) ∷ map (λ b. s.y + s.bottoms + b) (fill_at lo).bounds) []) →
          Has hi (s.need ∷ cond b ((s.y + s.bottoms) ∷ []) [] ++
          cond c ((s.y + s.bottoms + s.height) ∷ map (λ b. s.y + s.bottoms + b) (fill_at lo).bounds) []) → ⊥
      go true eb true ec n e = let k = cut-from s lo ec in let m =
          (and_parts (nat_lt 0 s.height) (nat_lt lo (s.y + s.bottoms)) eb).1 in grind (arith, nat_tests)
      go true eb false ec n e = first (has-one hi (s.y + s.bottoms) [] (has-rest hi s.need ((s.y + s.bottoms) ∷ []) needs e))
        where
          first : ((s.y + s.bottoms) ≡ hi) ⊎ Has hi [] → ⊥
          first (inl k) = begins-here eb k same
          first (inr k) = cc
      go false eb true ec n e =
          cut-here ec n.1.0 n.1.1 (has-one hi (s.y + s.bottoms + s.height) (map (λ b. s.y + s.bottoms + b) (fill_at lo).bounds)
          (has-rest hi s.need ((s.y + s.bottoms + s.height) ∷ map (λ b. s.y + s.bottoms + b) (fill_at lo).bounds) needs e))
          same
      go false eb false ec n e = let k = has-rest hi s.need [] needs e in cc

-- the stop that the first line tells, and the lines after it
abbrev head_stop : List ColumnLine → Option ℕ
head_stop [] = None
head_stop (l ∷ ls) = l.stop

abbrev behind_head : List ColumnLine → List ColumnLine
behind_head [] = []
behind_head (l ∷ ls) = ls

module _ (inner : Inner) (law : FillsChange inner) (d : FlowsData) (f : Flow) where
  up-to-stop : (h : ℕ) (before : List Step) (o : Option Step) →
      head_stop (column_up_to inner (avoids_at d f) h before o).lines ≡ stop_number o
  up-to-stop h before None = refl
  up-to-stop h before (Some s) = refl

  -- at its least bound the lines of a column change
  pub column-changes : (t : Token) (lo hi : ℕ) → lo ≤ hi → NoneBelow hi (column inner d f t lo).bounds →
      Has hi (column inner d f t lo).bounds → (column inner d f t lo).lines ≡ (column inner d f t hi).lines → ⊥
  unfolding column
  column-changes t lo hi le below has same = go (cut lo (steps_from inner d f t)).stop refl below has same
    where
      good : Good inner (item_number t) (steps_from inner d f t)
      good = steps-good inner d f (start_strip d f t) (item_number t) (within t) (length f.items - item_number t)

      by-row : (s : Step) → (cut lo (steps_from inner d f t)).stop ≡ Some s → hi < s.need → (o : Option (ℕ × Token)) → s.row ≡ o →
          NoneBelow hi (bounds_at s lo (fill_in_room inner o (room s lo))) →
          Has hi (bounds_at s lo (fill_in_room inner o (room s lo))) →
          inner_lines (is_cut s lo) (fill_in_room inner o (room s lo)) ≡
          inner_lines (is_cut s hi) (fill_in_room inner o (room s hi)) → ⊥
      by-row s e needs None is below has same = let k = has-rest hi s.need [] needs has in cc
      by-row s e needs (Some row) is below has same =
          row-changes inner law s row (stop-good inner lo (item_number t) s (steps_from inner d f t) good e row is) lo hi le needs
          below has same

      by-need : (s : Step) → (cut lo (steps_from inner d f t)).stop ≡ Some s →
          NoneBelow hi (bounds_at s lo (fill_in_room inner s.row (room s lo))) →
          Has hi (bounds_at s lo (fill_in_room inner s.row (room s lo))) →
          (column_up_to inner (avoids_at d f) lo (cut lo (steps_from inner d f t)).before (Some s)).lines ≡
          (column_up_to inner (avoids_at d f) hi (cut hi (steps_from inner d f t)).before
          (cut hi (steps_from inner d f t)).stop).lines →
          (s.need ≤ hi) ⊎ (hi < s.need) → ⊥
      by-need s e below has same (inl fit) =
          cut-later inner lo hi (item_number t) s (steps_from inner d f t) good le e fit
          (sym (up-to-stop hi (cut hi (steps_from inner d f t)).before (cut hi (steps_from inner d f t)).stop)
          ∙ sym (ap head_stop same))
      by-need s e below has same (inr needs) =
          let k : cut hi (steps_from inner d f t) ≡ cut lo (steps_from inner d f t) =
          cut-same lo hi s (steps_from inner d f t) le e needs in
          let stop : (cut hi (steps_from inner d f t)).stop ≡ Some s = ap (λ (c : Cut). c.stop) k ∙ e in
          let w = subst (λ (o : Option Step). (column_up_to inner (avoids_at d f) lo (cut lo (steps_from inner d f t)).before
          (Some s)).lines ≡ (column_up_to inner (avoids_at d f) hi (cut hi (steps_from inner d f t)).before o).lines) stop
          same in
          by-row s e needs s.row refl below has (ap behind_head w)

      turned : (a b : ℕ) → (a < b) ⊎ (b ≤ a) → (b ≤ a) ⊎ (a < b)
      turned a b (inl lt) = inr lt
      turned a b (inr le) = inl le

      go : (o : Option Step) → (cut lo (steps_from inner d f t)).stop ≡ o →
          NoneBelow hi (column_up_to inner (avoids_at d f) lo (cut lo (steps_from inner d f t)).before o).bounds →
          Has hi (column_up_to inner (avoids_at d f) lo (cut lo (steps_from inner d f t)).before o).bounds →
          (column_up_to inner (avoids_at d f) lo (cut lo (steps_from inner d f t)).before o).lines ≡
          (column_up_to inner (avoids_at d f) hi (cut hi (steps_from inner d f t)).before
          (cut hi (steps_from inner d f t)).stop).lines → ⊥
      go None e below has same = cc
      go (Some s) e below has same = by-need s e below has same (turned hi s.need (cases_lt hi s.need))
