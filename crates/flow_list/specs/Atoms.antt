-- Flows of atoms alone.
use Rattle.std.specs.Prelude.{All}
use Rattle.flow_list.specs.Data.{Flow, Item, Atom, Row}

abbrev pub IsAtom : Item → Type 0
IsAtom (Atom height kind) = Unit {0}
IsAtom (Row r) = ⊥

-- no row stands in the flow
abbrev pub HoldsAtoms : Flow → Type 0
HoldsAtoms f = All IsAtom f.items
