-- The columns that a fold makes one after another: each further one, and where there are no more; what they cost to make.
use Rattle.std.proofs.Common.{◌≡◌, ℕ, ◌+◌, ◌-◌, ◌≤◌, Bool, true, false, cond, ◌||◌, List, [], ◌∷◌, ◌++◌, length}
use Rattle.std.proofs.Common.{refl, sym, ◌∙◌, ap, arith}
use Rattle.std.specs.List.{list_any}
use Rattle.std.proofs.lemmas.List.{append-nil}
use Rattle.std.proofs.lemmas.List.Concat.{flat_map-append}
use Rattle.flow_data.specs.declared.data.Flow.{Flow}
use Rattle.flow_data.specs.declared.data.FlowsData.{FlowsData}
use Rattle.flow_list.specs.Certificate.{uses_of}
use Rattle.flow_list.specs.Column.{Column, Inner, column}
use Rattle.flow_list.specs.Folds.{Folding, every, fitting, columns_made}
use Rattle.flow_list.specs.Looks.{look_cost}
use Rattle.flow_list.specs.Ranges.{to_failure}
use Rattle.flow_list.specs.Rows.{all_rows, columns, columns_by, end_of, fails}
use Rattle.flow_list.specs.Tokens.{Token, is_end}
use Rattle.column_laws.proofs.Following.{any-up-to, at-most, joined, no-more, one-more, up-to-all, up-to-before, up-to-behind}
use Rattle.column_row.specs.Adding.{is_over}
use Rattle.column_row.specs.Folding.{looks_cost}

pub or-left : (a b : Bool) → (a || b) ≡ false → a ≡ false
or-left true b e = absurd (cc)
or-left false b e = refl

or-right : (a b : Bool) → (a || b) ≡ false → b ≡ false
or-right true b e = absurd (cc)
or-right false b e = e

or-first : (a b : Bool) → b ≡ false → (a || b) ≡ true → a ≡ true
or-first true b none e = refl
or-first false b none e = absurd (cc)

-- ---- up to the first that breaks a rule

failure-one : (cs : List Column) (c : Column) → list_any fails cs ≡ false → to_failure (cs ++ c ∷ []) ≡ cs ++ c ∷ []
failure-one cs c none = up-to-behind fails cs (c ∷ []) none ∙ ap (λ ds. cs ++ ds) (go (fails c))
  where
    go : (b : Bool) → c ∷ cond b [] [] ≡ c ∷ []
    go true = refl
    go false = refl

failure-short : (cs : List Column) → length (to_failure cs) ≤ length cs
failure-short [] = omega arith
failure-short (c ∷ cs) = go (fails c) (failure-short cs)
  where
    go : (b : Bool) → length (to_failure cs) ≤ length cs → length (c ∷ cond b [] (to_failure cs)) ≤ length (c ∷ cs)
    go true le = omega arith
    go false le = omega arith

module _ (inner : Inner) (d : FlowsData) (f : Flow) (q : Token) (h : ℕ) where
  abbrev make : Token → Column
  make t = column inner d f t h

  abbrev first : ℕ → List Column
  first n = columns inner d f n q h

  abbrev pub made : Folding → ℕ → List Column
  made folding n = columns_made folding inner d f n q h

  parts : (n m : ℕ) → n ≤ m → first m ≡ first n ++ columns_by make f (m - n) (end_of q (first n))
  parts n m le = let e : m ≡ n + (m - n) = omega arith in ap first e ∙ joined make f n (m - n) q

  pub made-none : (folding : Folding) → made folding 0 ≡ []
  unfolding columns_by
  made-none every = refl
  made-none fitting = refl

  pub made-few : (folding : Folding) (n : ℕ) → length (made folding n) ≤ n
  made-few every n = at-most make f n q
  made-few fitting n = let a = at-most make f n q in let b = failure-short (first n) in omega arith

  -- more columns begin with fewer
  pub made-starts : (folding : Folding) (n m : ℕ) → n ≤ m → (rest : List Column) × (made folding m ≡ made folding n ++ rest)
  made-starts every n m le = (columns_by make f (m - n) (end_of q (first n)), parts n m le)
  made-starts fitting n m le = go (list_any fails (first n)) refl
    where
      rest : List Column
      rest = columns_by make f (m - n) (end_of q (first n))

      go : (b : Bool) → list_any fails (first n) ≡ b → (rest : List Column) × (to_failure (first m)
          ≡ to_failure (first n) ++ rest)
      go true e = ([], ap to_failure (parts n m le) ∙ up-to-before fails (first n) rest e ∙ sym (append-nil (to_failure (first n))))
      go false e = (
        to_failure rest,
        ap to_failure (parts n m le) ∙ up-to-behind fails (first n) rest e
            ∙ ap (λ cs. cs ++ to_failure rest) (sym (up-to-all fails (first n) e)),
      )

  -- there are no more
  pub made-over : (folding : Folding) (n m : ℕ) → n ≤ m →
      is_over folding f (end_of q (made folding n)) (list_any fails (made folding n)) ≡ true → made folding m ≡ made folding n
  made-over every n m le over = no-more make f n m q le over
  made-over fitting n m le over = go (list_any fails (first n)) refl
    where
      go : (b : Bool) → list_any fails (first n) ≡ b → to_failure (first m) ≡ to_failure (first n)
      go true e = ap to_failure (parts n m le)
          ∙ up-to-before fails (first n) (columns_by make f (m - n) (end_of q (first n))) e
      go false e =
          let ends : is_end f (end_of q (to_failure (first n))) ≡ true =
          or-first _ (list_any fails (to_failure (first n))) (any-up-to fails (first n) ∙ e) over in
          ap to_failure (no-more make f n m q le (ap (λ cs. is_end f (end_of q cs)) (sym (up-to-all fails (first n) e)) ∙ ends))

  -- or there is one more
  pub made-more : (folding : Folding) (n : ℕ) →
      is_over folding f (end_of q (made folding n)) (list_any fails (made folding n)) ≡ false →
      made folding (n + 1) ≡ made folding n ++ column inner d f (end_of q (made folding n)) h ∷ []
  made-more every n over = one-more make f n q over
  made-more fitting n over =
      let none : list_any fails (first n) ≡ false =
      sym (any-up-to fails (first n)) ∙ or-right (is_end f (end_of q (to_failure (first n)))) _ over in
      let same : to_failure (first n) ≡ first n = up-to-all fails (first n) none in
      let inside : is_end f (end_of q (first n)) ≡ false =
      ap (λ cs. is_end f (end_of q cs)) (sym same)
      ∙ or-left (is_end f (end_of q (to_failure (first n)))) (list_any fails (to_failure (first n))) over in
      ap to_failure (one-more make f n q inside) ∙ failure-one (first n) (make (end_of q (first n))) none
      ∙ ap (λ cs. cs ++ column inner d f (end_of q cs) h ∷ []) (sym same)

-- ---- what they use, and what they cost

pub uses-one : (cs : List Column) (c : Column) → uses_of (cs ++ c ∷ []) ≡ uses_of cs ++ c.uses
uses-one cs c = flat_map-append (λ (c : Column). c.uses) cs (c ∷ []) ∙ ap (λ us. uses_of cs ++ us) (append-nil c.uses)

module _ (d : FlowsData) (f : Flow) (h : ℕ) where
  cost-append : (t : Token) (cs ds : List Column) →
      looks_cost d f t h (cs ++ ds) ≡ looks_cost d f t h cs + looks_cost d f (end_of t cs) h ds
  cost-append t [] ds = omega arith
  cost-append t (c ∷ cs) ds = let rest = cost-append c.end cs ds in omega arith

  pub cost-one : (t : Token) (cs : List Column) (c : Column) →
      looks_cost d f t h (cs ++ c ∷ []) ≡ looks_cost d f t h cs + look_cost (all_rows d) d f (end_of t cs) h
  cost-one t cs c = let both = cost-append t cs (c ∷ []) in omega arith

  pub cost-of-first : (folding : Folding) (q : Token) (n m : ℕ) → n ≤ m →
      looks_cost d f q h (columns_made folding (all_rows d) d f n q h)
      ≤ looks_cost d f q h (columns_made folding (all_rows d) d f m q h)
  cost-of-first folding q n m le =
      let starts = made-starts (all_rows d) d f q h folding n m le in
      let both = cost-append q (columns_made folding (all_rows d) d f n q h) starts.0 in
      rw starts.1 (omega arith)
