-- Breaks stay constant below what a shortage adds to a height.
use Rattle.std.proofs.Common.{◌≡◌, ℕ, ◌<◌, ◌≤◌, min, Bool, true, false, cond, not, ◌||◌, ◌&&◌, List, [], ◌∷◌, length, refl, sym}
use Rattle.std.proofs.Common.{subst, ◌∙◌, ap, arith}
use Rattle.std.specs.Prelude.{fold, nat_lt}
use Rattle.std.specs.List.{list_any}
use Rattle.flow_data.specs.declared.data.Flow.{Flow}
use Rattle.flow_data.specs.declared.data.FlowsData.{FlowsData}
use Rattle.flow_list.specs.Tokens.{Token, is_end}
use Rattle.flow_list.specs.Column.{Column, Inner, column}
use Rattle.flow_list.specs.Rows.{columns, end_of, fails, reach_end, to_overflow, rows_to}
use Rattle.flow_list.specs.RowHeights.{is_unforced}
use Rattle.flow_list.specs.Ranges.{to_failure, bounds_of}
use Rattle.flow_list.specs.Folds.{Folding, every, fitting, shortage, folded_by, columns_made}
use Rattle.flow_laws.specs.Constant.{IsBelowEach, ColumnsStay, FillsStay}
use Rattle.flow_laws.proofs.RowsStay.{column-stays, StayUpTo, none, ends, more, cons-stay, columns-stay, lines-stay, any-stays}
use Rattle.flow_laws.proofs.RowsStay.{end-stays, level-stays, each-stays, overflows, overflow-kept, fails-kept, fails-fine}
use Rattle.flow_laws.proofs.RowsStay.{rows_to-stay}
use Rattle.column_laws.specs.Staying.{IsShortOf, FoldStays, ShortagesHold}

-- ---- shortages and bounds

least-le : (b : ℕ) (bs : List ℕ) → fold min b bs ≤ b
least-le b [] = omega arith
least-le b (c ∷ bs) = let a = least-le (min b c) bs in omega arith

below-least : (h b : ℕ) (bs : List ℕ) → h < fold min b bs → IsBelowEach h (b ∷ bs)
below-least h b [] lt = (lt, tt)
below-least h b (c ∷ bs) lt =
    let rest = below-least h (min b c) bs lt in
    let first = rest.0 in
    (omega arith, (omega arith, rest.1))

pub short-below : (lo h : ℕ) (bs : List ℕ) → IsShortOf lo (shortage lo bs) h → (lo ≤ h) × IsBelowEach h bs
short-below lo h [] le = (le, tt)
short-below lo h (b ∷ bs) within = let le = within.0 in let lt = within.1 in (le, below-least h b bs (omega arith))

-- ---- columns that stay up to the first that overflows

-- columns that stay one by one do so up to the first that overflows
each-up-to : (as_ bs : List Column) → ColumnsStay as_ bs → StayUpTo overflows overflow-kept (λ a k. k) as_ bs
each-up-to [] [] all = none
each-up-to [] (b ∷ bs) all = absurd all
each-up-to (a ∷ as_) [] all = absurd all
each-up-to (a ∷ as_) (b ∷ bs) all = cons-stay overflows overflow-kept (λ a k. k) a b as_ bs all.0 (overflows a) refl
    (λ k. each-up-to as_ bs all.1)

-- those up to the first that breaks a rule end with the first that overflows
failure-overflow : (cs : List Column) → to_overflow (to_failure cs) ≡ to_failure cs
failure-overflow [] = refl
failure-overflow (c ∷ cs) = go (fails c) refl (failure-overflow cs)
  where
    one : (o : Bool) → c ∷ cond o [] [] ≡ c ∷ []
    one true = refl
    one false = refl

    go : (b : Bool) → fails c ≡ b → to_overflow (to_failure cs) ≡ to_failure cs →
        to_overflow (c ∷ cond b [] (to_failure cs)) ≡ c ∷ cond b [] (to_failure cs)
    go true e again = one c.overflow
    go false e again = ap (λ o. c ∷ cond o [] (to_overflow (to_failure cs))) (fails-fine c e) ∙ ap (λ us. c ∷ us) again

-- ---- what is told of columns that stay

module _ (f : Flow) (q : Token) where
  stay-count : {cs ds : List Column} → StayUpTo overflows overflow-kept (λ a k. k) cs ds → list_any overflows cs ≡ false →
      length ds ≡ length cs
  stay-count none n = refl
  stay-count (ends k e) n = let m : true ≡ false = rw k at n in cc
  stay-count (more k e rest) n = let again = stay-count rest (rw k at n) in omega arith

  stay-unforced : {cs ds : List Column} → StayUpTo overflows overflow-kept (λ a k. k) cs ds → list_any overflows cs ≡ false →
      list_any (λ (c : Column). is_unforced f c.end) ds ≡ list_any (λ (c : Column). is_unforced f c.end) cs
  stay-unforced none n = refl
  stay-unforced (ends k e) n = let m : true ≡ false = rw k at n in cc
  stay-unforced (more k e rest) n = rw (e.end k, stay-unforced rest (rw k at n)) refl

  stay-fails : {cs ds : List Column} → StayUpTo overflows overflow-kept (λ a k. k) cs ds → list_any overflows cs ≡ false →
      list_any fails ds ≡ list_any fails cs
  stay-fails none n = refl
  stay-fails (ends k e) n = let m : true ≡ false = rw k at n in cc
  stay-fails (more k e rest) n = rw (fails-kept _ _ e, stay-fails rest (rw k at n)) refl

  -- where one overflows, one breaks a rule
  over-breaks : (cs : List Column) → list_any overflows cs ≡ true → list_any fails cs ≡ true
  over-breaks [] some = cc
  over-breaks (c ∷ cs) some = go c.overflow refl (λ s. over-breaks cs s) some
    where
      right : (b : Bool) → (b || true) ≡ true
      right true = refl
      right false = refl

      go : (o : Bool) → c.overflow ≡ o → (list_any overflows cs ≡ true → list_any fails cs ≡ true) →
          (o || list_any overflows cs) ≡ true → ((c.overflow || nat_lt 0 c.level) || list_any fails cs) ≡ true
      go true e again s = rw e refl
      go false e again s = rw (again s, right (c.overflow || nat_lt 0 c.level)) refl

  and-false : (b : Bool) → (b && false) ≡ false
  and-false true = refl
  and-false false = refl

  stay-fits : (cs ds : List Column) → StayUpTo overflows overflow-kept (λ a k. k) cs ds → reach_end f q ds ≡ reach_end f q cs
  stay-fits cs ds same = go (list_any overflows cs) refl
    where
      go : (b : Bool) → list_any overflows cs ≡ b → reach_end f q ds ≡ reach_end f q cs
      go true e =
          let some : list_any overflows ds ≡ true = any-stays overflows overflow-kept (λ a k. k) same ∙ e in
          ap (λ b. is_end f (end_of q ds) && not b) (over-breaks ds some) ∙ and-false (is_end f (end_of q ds))
          ∙ sym (ap (λ b. is_end f (end_of q cs) && not b) (over-breaks cs e) ∙ and-false (is_end f (end_of q cs)))
      go false e =
          ap (λ u. is_end f u && not (list_any fails ds)) (end-stays overflows overflow-kept (λ a k. k) same e q)
          ∙ ap (λ b. is_end f (end_of q cs) && not b) (stay-fails same e)

  pub told-stays : (lo h : ℕ) (cs ds : List Column) → StayUpTo overflows overflow-kept (λ a k. k) cs ds →
      FoldStays (folded_by f q lo cs) (folded_by f q h ds)
  told-stays lo h cs ds same = record {
    lines = lines-stay overflows overflow-kept (λ a k. k) same;
    overflow = any-stays overflows overflow-kept (λ a k. k) same;
    fits = stay-fits cs ds same;
    columns = λ o. stay-count same o;
    end = λ o. end-stays overflows overflow-kept (λ a k. k) same o q;
    at_end = λ o. ap (is_end f) (end-stays overflows overflow-kept (λ a k. k) same o q);
    level = λ o. level-stays overflows overflow-kept (λ a k. k) same o 0;
    unforced = λ o. stay-unforced same o;
  }

-- ---- the law

module _ (inner : Inner) (law : FillsStay inner) (d : FlowsData) (f : Flow) (n : ℕ) (q : Token) (lo h : ℕ) where
  made-stay : (folding : Folding) → IsShortOf lo (folded_by f q lo (columns_made folding inner d f n q lo)).short h →
      StayUpTo overflows overflow-kept (λ a k. k) (columns_made folding inner d f n q lo) (columns_made folding inner d f n q h)
  made-stay every within =
      let k = short-below lo h (bounds_of (to_overflow (columns inner d f n q lo))) within in
      columns-stay overflows overflow-kept (λ a k. k) inner law d f n q lo h k.0 k.1
  made-stay fitting within =
      let k = short-below lo h (bounds_of (to_overflow (to_failure (columns inner d f n q lo)))) within in
      let P : List Column → Type 0 = λ cs. IsBelowEach h (bounds_of cs) in
      let below = subst P (failure-overflow (columns inner d f n q lo)) k.1 in
      each-up-to (to_failure (columns inner d f n q lo)) (to_failure (columns inner d f n q h))
      (each-stays fails fails-kept fails-fine (columns-stay fails fails-kept fails-fine inner law d f n q lo h k.0 below))

pub shortages-hold : (d : FlowsData) (depth : ℕ) → ShortagesHold d depth
shortages-hold d depth = record {
  column_stays = λ f t lo h within.
      let k = short-below lo h (column (rows_to d depth) d f t lo).bounds within in
      column-stays (rows_to d depth) (rows_to-stay d depth) d f t lo h k.0 k.1;
  fold_stays = λ folding f n q lo h within.
      told-stays f q lo h (columns_made folding (rows_to d depth) d f n q lo) (columns_made folding (rows_to d depth) d f n q h)
      (made-stay (rows_to d depth) (rows_to-stay d depth) d f n q lo h folding within);
  fill_stays = λ r q lo h within. let k = short-below lo h ((rows_to d depth).fill r q lo).bounds within in
      rows_to-stay d depth r q lo h k.0 k.1;
}
