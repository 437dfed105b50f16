-- The tallest atom as the definitions of ranges have it (this project's own).
use Rattle.std.specs.Prelude.{ℕ}
use Rattle.flow_list.specs.Data.{Item, Atom, Row}
use Rattle.flow_list.specs.Ranges.{Tallest}
use Rattle.atom_needs.specs.declared.tallest.Tallest.{Tallest as TallestAtom}

abbrev pub told : TallestAtom → Tallest
told t = record { need = t.need; item = t.item }

-- what an item needs where it is an atom, and nothing where it is a row
abbrev pub need_of : Item → ℕ → ℕ
need_of (Atom height kind) need = need
need_of (Row r) need = 0
