-- Columns one after another: where one of them changes its lines, they change theirs together.
use Rattle.std.proofs.Common.{◌≡◌, ℕ, zero, suc, ◌==◌, ◌⊎◌, inl, inr, Bool, true, false, cond, List, [], ◌++◌, refl, subst, sym}
use Rattle.std.proofs.Common.{◌∙◌, ap}
use Rattle.std.specs.List.{list_any}
use Rattle.flow_list.specs.Data.{Flow}
use Rattle.flow_list.specs.Tokens.{Token, is_end}
use Rattle.flow_list.specs.Column.{Column, ColumnLine}
use Rattle.flow_list.specs.Rows.{columns_by, up_to}
use Rattle.flow_list.specs.Ranges.{bounds_of, lines_of}
use Rattle.flow_list.proofs.Fitting.{columns_by-step, columns_by-past}
use Rattle.flow_laws.specs.Constant.{IsBelowEach, ColumnStays}
use Rattle.range_laws.proofs.Bounds.{Has, NoneBelow, below-left, below-right, has-parts, above-each}
use Rattle.range_laws.proofs.LineBlocks.{Block, Starts, same-blocks}

-- How columns at a height stand to those at a greater one: up to where one of their bounds is reached each stays, and there its
-- lines change.
pub record Steady (f : Flow) (h : ℕ) (lo hi : Token → Column) (stops : Column → Bool) : Type 0 where
  pub block_lo : (t : Token) → Block (lo t).lines
  pub block_hi : (t : Token) → Block (hi t).lines
  pub change : (t : Token) → is_end f t ≡ false → NoneBelow h (lo t).bounds → Has h (lo t).bounds → (lo t).lines ≡ (hi t).lines →
      ⊥
  pub stay : (t : Token) → IsBelowEach h (lo t).bounds → ColumnStays (lo t) (hi t)
  pub stop_over : (c : Column) → c.overflow ≡ true → stops c ≡ true
  pub stop_same : (a b : Column) → a.overflow ≡ false → ColumnStays a b → stops b ≡ stops a

no-columns : (make : Token → Column) (f : Flow) (t : Token) → columns_by make f zero t ≡ []
unfolding columns_by
no-columns make f t = refl

lines-start : (make : Token → Column) (f : Flow) (stops : Column → Bool) → ((t : Token) → Block (make t).lines) →
    (n : ℕ) (t : Token) → Starts (lines_of (up_to stops (columns_by make f n t)))
lines-start make f stops block zero t = subst (λ cs. Starts (lines_of (up_to stops cs))) (sym (no-columns make f t)) tt
lines-start make f stops block (suc n) t = go (is_end f t) refl
  where
    first : (c : Column) (ls : List ColumnLine) → Block c.lines → Starts (c.lines ++ ls)
    first c ls (l, inner, at, e) = subst (λ xs. Starts (xs ++ ls)) (sym e) at

    go : (b : Bool) → is_end f t ≡ b → Starts (lines_of (up_to stops (columns_by make f (suc n) t)))
    go true e = subst (λ cs. Starts (lines_of (up_to stops cs))) (sym (columns_by-past make f (suc n) t e)) tt
    go false e = subst (λ cs. Starts (lines_of (up_to stops cs))) (sym (columns_by-step make f n t e))
        (first (make t) _ (block t))

module _ (f : Flow) (h : ℕ) (lo hi : Token → Column) (stops : Column → Bool) (steady : Steady f h lo hi stops) where
  -- the columns of both heights from a place on, up to where the test stops them
  abbrev lows : ℕ → Token → List Column
  lows n t = up_to stops (columns_by lo f n t)

  abbrev highs : ℕ → Token → List Column
  highs n t = up_to stops (columns_by hi f n t)

  cut-start : (b : Bool) (cs : List Column) → Starts (lines_of cs) → Starts (lines_of (cond b [] cs))
  cut-start true cs s = tt
  cut-start false cs s = s

  one-step : (n : ℕ) (t : Token) → ((u : Token) → NoneBelow h (bounds_of (lows n u)) → Has h (bounds_of (lows n u)) →
      lines_of (lows n u) ≡ lines_of (highs n u) → ⊥) → is_end f t ≡ false →
      NoneBelow h ((lo t).bounds ++ bounds_of (cond (stops (lo t)) [] (lows n (lo t).end))) →
      Has h ((lo t).bounds ++ bounds_of (cond (stops (lo t)) [] (lows n (lo t).end))) →
      (lo t).lines ++ lines_of (cond (stops (lo t)) [] (lows n (lo t).end)) ≡ (hi t).lines ++
      lines_of (cond (stops (hi t)) [] (highs n (hi t).end)) → ⊥
  one-step n t later open_ below has same =
      let rest_lo = cond (stops (lo t)) [] (lows n (lo t).end) in
      let rest_hi = cond (stops (hi t)) [] (highs n (hi t).end) in
      let k = same-blocks (lo t).lines (hi t).lines (lines_of rest_lo) (lines_of rest_hi) (steady.block_lo t) (steady.block_hi t)
      (cut-start (stops (lo t)) (lows n (lo t).end) (lines-start lo f stops steady.block_lo n (lo t).end))
      (cut-start (stops (hi t)) (highs n (hi t).end) (lines-start hi f stops steady.block_hi n (hi t).end)) same in
      which (list_any (λ b. b == h) (lo t).bounds) refl k.0 k.1 (has-parts h (lo t).bounds (bounds_of rest_lo) has)
    where
      further : ColumnStays (lo t) (hi t) → (o : Bool) → (lo t).overflow ≡ o → (s : Bool) → stops (lo t) ≡ s → (s2 : Bool) →
          stops (hi t) ≡ s2 →
          NoneBelow h (bounds_of (cond s [] (lows n (lo t).end))) → Has h (bounds_of (cond s [] (lows n (lo t).end))) →
          lines_of (cond s [] (lows n (lo t).end)) ≡ lines_of (cond s2 [] (highs n (hi t).end)) → ⊥
      further stays o eo true es s2 e2 below has same = cc
      further stays true eo false es s2 e2 below has same = let k = steady.stop_over (lo t) eo in cc
      further stays false eo false es true e2 below has same = let k = steady.stop_same (lo t) (hi t) eo stays in cc
      further stays false eo false es false e2 below has same =
          let e : (hi t).end ≡ (lo t).end = stays.end eo in
          later (lo t).end below has (same ∙ ap (λ u. lines_of (highs n u)) e)

      which : (b : Bool) → list_any (λ b. b == h) (lo t).bounds ≡ b → (lo t).lines ≡ (hi t).lines →
          lines_of (cond (stops (lo t)) [] (lows n (lo t).end)) ≡ lines_of (cond (stops (hi t)) [] (highs n (hi t).end)) →
          Has h (lo t).bounds ⊎ Has h (bounds_of (cond (stops (lo t)) [] (lows n (lo t).end))) → ⊥
      which true e first rest parts = steady.change t open_ (below-left h (lo t).bounds _ below) e first
      which false e first rest (inl here) = cc
      which false e first rest (inr there) =
          further (steady.stay t (above-each h (lo t).bounds e (below-left h (lo t).bounds _ below))) (lo t).overflow refl
          (stops (lo t)) refl (stops (hi t)) refl
          (below-right h (lo t).bounds _ below) there rest

  -- at the least bound of the columns their lines change
  pub chain-changes : (n : ℕ) (t : Token) → NoneBelow h (bounds_of (lows n t)) → Has h (bounds_of (lows n t)) →
      lines_of (lows n t) ≡ lines_of (highs n t) → ⊥
  chain-changes zero t below has same = let k : Has h [] = subst (λ cs. Has h (bounds_of (up_to stops cs))) (no-columns lo f t)
      has in cc
  chain-changes (suc n) t below has same = go (is_end f t) refl (λ u. chain-changes n u)
    where
      go : (b : Bool) → is_end f t ≡ b → ((u : Token) → NoneBelow h (bounds_of (lows n u)) → Has h (bounds_of (lows n u)) →
          lines_of (lows n u) ≡ lines_of (highs n u) → ⊥) → ⊥
      go true e later = let k : Has h [] = subst (λ cs. Has h (bounds_of (up_to stops cs))) (columns_by-past lo f (suc n) t e)
          has in cc
      go false e later =
          let l = columns_by-step lo f n t e in
          let m = columns_by-step hi f n t e in
          one-step n t later e (subst (λ cs. NoneBelow h (bounds_of (up_to stops cs))) l below)
          (subst (λ cs. Has h (bounds_of (up_to stops cs))) l has)
          (sym (ap (λ cs. lines_of (up_to stops cs)) l) ∙ same ∙ ap (λ cs. lines_of (up_to stops cs)) m)
