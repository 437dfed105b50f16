-- What worked cases of documents are written with.
use Rattle.std.proofs.Common.{[]}
use Rattle.std.specs.Prelude.{ℕ, List, length, Option, Some, None}
use Rattle.mc_base.specs.declared.level.Level.{Level}
use Rattle.html_grammar.specs.declared.dom.Attribute.{Attribute}
use Rattle.inline_text.specs.declared.content.Piece.{Piece}
use Rattle.flow_data.specs.declared.data.Edge.{Edge}
use Rattle.flow_data.specs.declared.data.Seam.{Seam}
use Rattle.line_breaker.specs.declared.line.Line.{Line}
use Rattle.box_data.specs.declared.tree.BoxKind.{BoxKind as Kind}
use Rattle.box_data.specs.BoxTree.{Node}

abbrev pub seam : List Edge → Level → List Edge → Seam
seam tail level head = record { tail = tail; head = head; level = level }

abbrev pub bare : Level → Seam
bare level = seam [] level []

-- an element and a kind of box
pub record Brief : Type 0 where
  pub element : ℕ
  pub kind : Kind

abbrev pub brief : ℕ → Kind → Brief
brief element kind = record { element = element; kind = kind }

abbrev pub brief_of : Node → Brief
brief_of node = record { element = node.element; kind = node.kind }

-- how many pieces are in the inline content of a box
abbrev pub count_in : Option (List Piece) → ℕ
count_in None = 0
count_in (Some run) = length run

abbrev pub pieces_of : Node → ℕ
pieces_of node = count_in node.run

-- a line of this size; which pieces stand in it doesn't count for the flows
abbrev pub sized : ℕ → ℕ → Line
sized w h = record { from = 0; to = 0; w = w; h = h }

abbrev pub size : List ℕ → List ℕ → Attribute
size name value = record { name = name; value = value; offset = 0 }
