-- There is one list of sizes for each line of columns.
use Rattle.std.proofs.Common.{◌≡◌, ℕ, zero, suc, Bool, true, false, cond, List, [], ◌∷◌, length, refl, subst, sym, ◌∙◌, ap, arith}
use Rattle.std.proofs.Common.{Option, Some, None, length-append}
use Rattle.std.proofs.lemmas.List.{length-map}
use Rattle.flow_list.specs.Data.{Flow, FlowsData}
use Rattle.flow_data.specs.Flows.{row_of, flow_in}
use Rattle.flow_laws.proofs.RowsAdvance.{by-zero}
use Rattle.flow_list.specs.Certificate.{Use, Owned, owned_in_fill, owned_by, column_owned, columns_owned, owned_to}
use Rattle.flow_list.specs.Column.{Column, Inner, Step, cut, steps_from, room, is_cut, fill_in_room, inner_lines, deeper, column}
use Rattle.flow_list.specs.Column.{column_up_to, avoids_at}
use Rattle.flow_list.specs.Ranges.{lines_of}
use Rattle.flow_list.specs.Rows.{columns_by, up_to, fill_in, rows_to}
use Rattle.flow_list.specs.Tokens.{Token, is_end}
use Rattle.flow_list.proofs.Fitting.{columns_by-step, columns_by-past}

-- so it is of what rows make of a height
abbrev pub FillsHaveLists : Owned → Inner → Type 0
FillsHaveLists owned inner = (r : ℕ) (q : Token) (a : ℕ) → length (owned.fill r q a) ≡ length (inner.fill r q a).lines

module _ (owned : Owned) (inner : Inner) (law : FillsHaveLists owned inner) where
  inside-lists : (b : Bool) (row : Option Use) (a : ℕ) → length (cond b (owned_in_fill owned row a) []) ≡
      length (inner_lines b (fill_in_room inner row a))
  inside-lists true None a = refl
  inside-lists false None a = refl
  inside-lists true (Some row) a = law row.0 row.1 a ∙ sym (length-map (inner.fill row.0 row.1 a).lines deeper)
  inside-lists false (Some row) a = refl

  up_to-lists : (avoids : ℕ → Bool) (h : ℕ) (before : List Step) (stop : Option Step) →
      length (owned_by owned h before stop) ≡ length (column_up_to inner avoids h before stop).lines
  up_to-lists avoids h before None = refl
  up_to-lists avoids h before (Some s) = ap suc (inside-lists (is_cut s h) s.row (room s h))

  pub column-lists : (d : FlowsData) (f : Flow) (t : Token) (h : ℕ) →
      length (column_owned owned inner d f t h) ≡ length (column inner d f t h).lines
  unfolding column
  column-lists d f t h = up_to-lists (avoids_at d f) h (cut h (steps_from inner d f t)).before
      (cut h (steps_from inner d f t)).stop

-- columns one after another, up to the first that a test stops
module _ (make : Token → Column) (f : Flow) (stops : Column → Bool) (lists : Token → List (List Use))
    (each : (t : Token) → length (lists t) ≡ length (make t).lines) where
  abbrev HaveLists : Token → List Column → Type 0
  HaveLists t cs = length (columns_owned lists t cs) ≡ length (lines_of cs)

  pub chain-lists : (n : ℕ) (t : Token) → HaveLists t (up_to stops (columns_by make f n t))
  chain-lists zero t = subst (λ cs. HaveLists t (up_to stops cs)) (sym (by-zero make f t)) refl
  chain-lists (suc n) t = go (is_end f t) refl (chain-lists n (make t).end)
    where
      first : (b : Bool) → HaveLists (make t).end (up_to stops (columns_by make f n (make t).end)) →
          HaveLists t (make t ∷ cond b [] (up_to stops (columns_by make f n (make t).end)))
      first true rest = let e = each t in omega (arith, length-append (lists t) [], length-append (make t).lines [])
      first false rest =
          let e = each t in
          let cs = up_to stops (columns_by make f n (make t).end) in
          omega (arith, length-append (lists t) (columns_owned lists (make t).end cs), length-append (make t).lines (lines_of cs))

      go : (b : Bool) → is_end f t ≡ b → HaveLists (make t).end (up_to stops (columns_by make f n (make t).end)) →
          HaveLists t (up_to stops (columns_by make f (suc n) t))
      go true e rest = subst (λ cs. HaveLists t (up_to stops cs)) (sym (columns_by-past make f (suc n) t e)) refl
      go false e rest = subst (λ cs. HaveLists t (up_to stops cs)) (sym (columns_by-step make f n t e))
          (first (stops (make t)) rest)

pub fills-have-lists : (d : FlowsData) (depth : ℕ) → FillsHaveLists (owned_to d depth) (rows_to d depth)
unfolding owned_to rows_to fill_in
fills-have-lists d zero r q a = refl
fills-have-lists d (suc depth) r q a =
    chain-lists (λ t. column (rows_to d depth) d (flow_in d r) t a) (flow_in d r) (λ (c : Column). c.overflow)
    (λ t. column_owned (owned_to d depth) (rows_to d depth) d (flow_in d r) t a)
    (λ t. column-lists (owned_to d depth) (rows_to d depth) (fills-have-lists d depth) d (flow_in d r) t a) (row_of d r).n q
