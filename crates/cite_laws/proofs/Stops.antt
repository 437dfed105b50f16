-- The items of a column, and its stop.
use Rattle.std.proofs.Common.{◌≡◌, ℕ, zero, suc, ◌+◌, ◌-◌, ◌==◌, ◌≤◌, Bool, true, false, List, [], ◌∷◌, ◌++◌, refl, sym}
use Rattle.std.proofs.Common.{◌∙◌, ap, cond, arith, Option, Some, None}
use Rattle.std.specs.Prelude.{nat_lt}
use Rattle.std.proofs.lemmas.Bool.Decides.{nat_tests}
use Rattle.flow_list.specs.Data.{Flow, FlowsData}
use Rattle.flow_data.specs.Flows.{item_of, seam_of}
use Rattle.flow_list.specs.Strip.{Strip, lay_all}
use Rattle.flow_list.specs.Tokens.{Token, row_start}
use Rattle.flow_list.specs.Column.{Inner, Step, Cut, step_at, strip_behind, steps, cut, longer, is_forced, row_from, row_list}
use Rattle.flow_list.specs.Column.{rows_among}
use Rattle.flow_list.specs.Certificate.{Use}
use Rattle.cite_laws.specs.Starts.{rows_from, before_forced}

-- What a stop of the items from item k on says: its number, its row, and the rows up to it.
pub record IsStop (f : Flow) (k : ℕ) (q : Token) (before : List Step) (s : Step) : Type 0 where
  pub from : k ≤ s.item
  pub row : s.row ≡ row_from (item_of f s.item) (cond (s.item == k) q row_start)
  pub rows : rows_among (before ++ s ∷ []) ≡ rows_from f k q (s.item + 1 - k)

-- and what the items say where there is no stop
abbrev pub StopSays : Flow → ℕ → Token → ℕ → List Step → Option Step → Type 0
StopSays f k q n before None = rows_among before ≡ rows_from f k q (before_forced f k n)
StopSays f k q n before (Some s) = IsStop f k q before s

abbrev CutSays : Flow → ℕ → Token → ℕ → Cut → Type 0
CutSays f k q n c = StopSays f k q n c.before c.stop

-- the first item is the stop
stop-here : (inner : Inner) (d : FlowsData) (f : Flow) (s : Strip) (k : ℕ) (q : Token)
    → IsStop f k q [] (step_at inner d f s k q)
stop-here inner d f s k q =
    let one : k + 1 - k ≡ 1 = omega arith in
    let same : (k == k) ≡ true = grind (arith, nat_tests) in
    record {
      from = omega arith;
      row = ap (λ (t : Bool). row_from (item_of f k) (cond t q row_start)) (sym same);
      rows = ap (λ (m : ℕ). rows_from f k q m) (sym one);
    }

-- an item in front
stop-later : (inner : Inner) (d : FlowsData) (f : Flow) (s : Strip) (k : ℕ) (q : Token) (before : List Step) (x : Step)
    → IsStop f (k + 1) row_start before x → IsStop f k q (step_at inner d f s k q ∷ before) x
stop-later inner d f s k q before x is =
    let from = is.from in
    let more : x.item + 1 - k ≡ suc (x.item + 1 - (k + 1)) = omega arith in
    let other : (x.item == k) ≡ false = grind (arith, nat_tests) in
    record {
      from = omega arith;
      row =
          is.row ∙ ap (λ (t : Token). row_from (item_of f x.item) t) (either (x.item == k + 1))
          ∙ ap (λ (t : Bool). row_from (item_of f x.item) (cond t q row_start)) (sym other);
      rows =
          ap (λ (us : List Use). row_list (row_from (item_of f k) q) ++ us) is.rows
          ∙ ap (λ (m : ℕ). rows_from f k q m) (sym more);
    }
  where
    either : (t : Bool) → cond t row_start row_start ≡ row_start
    either true = refl
    either false = refl

-- what is said of a longer list of items
longer-says : (inner : Inner) (d : FlowsData) (f : Flow) (s : Strip) (k : ℕ) (q : Token) (n : ℕ) (c : Cut)
    → is_forced (seam_of f (k + 1)).level ≡ false → CutSays f (k + 1) row_start n c
    → CutSays f k q (suc n) (longer (step_at inner d f s k q) c)
longer-says inner d f s k q n c free says = go c.before c.stop says
  where
    go : (before : List Step) (stop : Option Step) → StopSays f (k + 1) row_start n before stop
        → StopSays f k q (suc n) (step_at inner d f s k q ∷ before) stop
    go before None e =
        ap (λ (us : List Use). row_list (row_from (item_of f k) q) ++ us) e
        ∙ ap (λ (t : Bool). rows_from f k q (suc (cond t 0 (before_forced f (k + 1) n)))) (sym free)
    go before (Some x) is = stop-later inner d f s k q before x is

-- the last item before a forced seam
last-says : (inner : Inner) (d : FlowsData) (f : Flow) (s : Strip) (k : ℕ) (q : Token) (n : ℕ)
    → is_forced (seam_of f (k + 1)).level ≡ true
    → StopSays f k q (suc n) (step_at inner d f s k q ∷ []) None
last-says inner d f s k q n forced =
    ap (λ (t : Bool). rows_from f k q (suc (cond t 0 (before_forced f (k + 1) n)))) (sym forced)

pub cut-says : (inner : Inner) (d : FlowsData) (f : Flow) (s : Strip) (k : ℕ) (q : Token) (n h : ℕ)
    → CutSays f k q n (cut h (steps inner d f s k q n))
unfolding steps
cut-says inner d f s k q zero h = refl
cut-says inner d f s k q (suc n) h =
    let first = step_at inner d f s k q in
    let next = lay_all (strip_behind inner f s k q) (seam_of f (k + 1)).head in
    go (nat_lt h first.need) (is_forced (seam_of f (k + 1)).level) refl (cut-says inner d f next (k + 1) row_start n h)
  where
    go : (t u : Bool) → is_forced (seam_of f (k + 1)).level ≡ u
        → CutSays f (k + 1) row_start n
        (cut h (steps inner d f (lay_all (strip_behind inner f s k q) (seam_of f (k + 1)).head) (k + 1) row_start n))
        → CutSays f k q (suc n) (cond t (record { before = []; stop = Some (step_at inner d f s k q) })
        (longer (step_at inner d f s k q) (cut h (elim u as (λ _. List Step) [
          | true ↦ []
          | false ↦ steps inner d f (lay_all (strip_behind inner f s k q) (seam_of f (k + 1)).head) (k + 1) row_start n
        ]))))
    go true u e later = stop-here inner d f s k q
    go false true e later = last-says inner d f s k q n e
    go false false e later = longer-says inner d f s k q n
        (cut h (steps inner d f (lay_all (strip_behind inner f s k q) (seam_of f (k + 1)).head) (k + 1) row_start n)) e later
