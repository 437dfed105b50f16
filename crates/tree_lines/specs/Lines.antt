-- The lines of a tree, as the definitions have them.
use Rattle.std.specs.Prelude.{List, map}
use Rattle.flow_list.specs.Tree.{TreeKind as AnyKind, stack, row, col, box, line, void, image, atom, TreeLine as AnyLine}
use Rattle.tree_lines.specs.declared.line.TreeKind.{TreeKind}
use Rattle.tree_lines.specs.declared.line.TreeKind.TheVariants.{Stack, Row, Col, Piece, Line, Void, Image, Atom}
use Rattle.tree_lines.specs.declared.line.TreeLine.{TreeLine}

-- what a line is of
abbrev pub kind_of : TreeKind → AnyKind
kind_of (Stack number) = stack number
kind_of (Row number from) = row number from
kind_of (Col index) = col index
kind_of (Piece owner starts ends) = box owner starts ends
kind_of (Line owner index) = line owner index
kind_of (Void owner) = void owner
kind_of (Image owner) = image owner
kind_of (Atom item) = atom item

abbrev pub line_of : TreeLine → AnyLine
line_of l = record { depth = l.depth; kind = kind_of l.kind; x = l.rect.x; y = l.rect.y; w = l.rect.w; h = l.rect.h }

abbrev pub lines_of : List TreeLine → List AnyLine
lines_of lines = map line_of lines
