-- Columns advance: each ends later than it begins, so they hold the content once as far as they go (CSS Fragmentation 3, section
-- 4.5, asks for progress).
use Rattle.std.specs.Prelude.{◌≡◌, ℕ, zero, suc, ◌-◌, ◌<◌, ◌≤◌, true, List, [], ◌∷◌, ◌++◌, length, take, drop, Option}
use Rattle.flow_list.specs.Data.{Flow, FlowsData, Item, Atom, Row}
use Rattle.flow_data.specs.Flows.{flow_in}
use Rattle.flow_list.specs.Tokens.{Token, row_start, item_number, within, is_end, IsPlace, IsPlaceBefore}
use Rattle.flow_list.specs.Column.{Column}
use Rattle.flow_list.specs.Rows.{columns_by, end_of, left_in, all_rows}
use Rattle.flow_list.specs.RowHeights.{column_within}

-- ---- the content of a row from a place on

-- an atom, by the row in which it stands and its item
pub record AtomAt : Type 0 where
  pub row : ℕ
  pub item : ℕ

-- the atoms in a row from a place on
pub record Contents : Type 0 where
  pub atoms : ℕ → Token → List AtomAt

abbrev pub item_atoms : Contents → ℕ → ℕ → Item → Token → List AtomAt
item_atoms c r k (Atom height kind) q = record { row = r; item = k } ∷ []
item_atoms c r k (Row s) q = c.atoms s q

-- the atoms of these items, of which the first is item k and is taken from a place
abbrev pub atoms_of_items : Contents → ℕ → ℕ → Token → List Item → List AtomAt
atoms_of_items c r k q [] = []
atoms_of_items c r k q (item ∷ items) = item_atoms c r k item q ++ atoms_of_items c r (suc k) row_start items

abbrev pub atoms_in : Contents → ℕ → Flow → Token → List AtomAt
atoms_in c r f t = atoms_of_items c r (item_number t) (within t) (drop (item_number t) f.items)

unfoldable pub contents_to : FlowsData → ℕ → Contents
contents_to d zero = record { atoms = λ r q. [] }
contents_to d (suc depth) = let c = contents_to d depth in record { atoms = λ r q. atoms_in c r (flow_in d r) q }

-- the atoms in row r from a place on, in order, with those in the rows within it
unfoldable pub atoms_from : FlowsData → ℕ → Token → List AtomAt
atoms_from d r q = (contents_to d (suc (length d.rows))).atoms r q

-- ---- later places

-- ys ends with xs
abbrev pub EndsWith : List AtomAt → List AtomAt → Type 0
EndsWith xs ys = (held : List AtomAt) × (ys ≡ held ++ xs)

-- Place u of row r comes after place t: it is the end or a place before it, fewer items are left there, and the atoms
-- from it on are the last ones of those from t on.
pub record IsLater (d : FlowsData) (r : ℕ) (t u : Token) : Type 0 where
  pub place : IsPlace d (flow_in d r) u
  pub fewer : left_in (all_rows d) (flow_in d r) u < left_in (all_rows d) (flow_in d r) t
  pub rest : EndsWith (atoms_from d r u) (atoms_from d r t)

-- the atoms from t on that don't stand from u on
abbrev pub atoms_between : FlowsData → ℕ → Token → Token → List AtomAt
atoms_between d r t u = take (length (atoms_from d r t) - length (atoms_from d r u)) (atoms_from d r t)

-- what these columns of row r hold, of which the first begins at t and each next one where the one before it ends
abbrev pub held_by : FlowsData → ℕ → Token → List Column → List AtomAt
held_by d r t [] = []
held_by d r t (c ∷ cs) = atoms_between d r t c.end ++ held_by d r c.end cs

-- the first n columns of row r from a place on, or all of them, at a height or without end
abbrev pub first_columns : FlowsData → ℕ → ℕ → Token → Option ℕ → List Column
first_columns d r n t h = columns_by (column_within d (flow_in d r) h) (flow_in d r) n t

-- The law, of sound flows.
pub record ColumnsAdvance (d : FlowsData) (r : ℕ) : Type 0 where
  -- a column ends later than it begins
  pub column_advances : (t : Token) (h : Option ℕ) → IsPlaceBefore d (flow_in d r) t
      → IsLater d r t (column_within d (flow_in d r) h t).end
  -- what a row makes of a height leaves a later place
  pub fill_advances : (t : Token) (h : ℕ) → IsPlaceBefore d (flow_in d r) t → IsLater d r t ((all_rows d).fill r t h).end
  -- as many columns as there are items left, or more, reach the end
  pub columns_end : (n : ℕ) (t : Token) (h : Option ℕ) → IsPlaceBefore d (flow_in d r) t
      → left_in (all_rows d) (flow_in d r) t ≤ n →
      is_end (flow_in d r) (end_of t (first_columns d r n t h)) ≡ true
  -- however many there are, they hold each atom before the place where they end once, in order, those in rows that are cut too
  pub each_once : (n : ℕ) (t : Token) (h : Option ℕ) → IsPlaceBefore d (flow_in d r) t →
      held_by d r t (first_columns d r n t h) ++ atoms_from d r (end_of t (first_columns d r n t h)) ≡ atoms_from d r t
  -- no atom stands after the end
  pub none_behind : (t : Token) → is_end (flow_in d r) t ≡ true → atoms_from d r t ≡ []
  -- so those that reach the end hold them all
  pub all_held : (n : ℕ) (t : Token) (h : Option ℕ) → IsPlaceBefore d (flow_in d r) t
      → is_end (flow_in d r) (end_of t (first_columns d r n t h)) ≡ true →
      held_by d r t (first_columns d r n t h) ≡ atoms_from d r t
