-- The text of the lines of a tree (this project's own).
use Rattle.std.specs.Prelude.{ℕ, Bool, List, [], ◌∷◌, ◌++◌, codes, if◌then◌else◌}
use Rattle.std.specs.List.{flat_map}
use Rattle.std.specs.Fmt.{decimal}
use Rattle.flow_list.specs.Tokens.{Token}
use Rattle.flow_list.specs.Tree.{TreeKind, stack, row, col, box, line, void, image, atom, TreeLine}

-- these words with a space before each
abbrev pub spaced : List (List ℕ) → List ℕ
spaced words = flat_map (λ word. 32 ∷ word) words

-- a place in a flow: its numbers joined by dots
abbrev pub token_text : Token → List ℕ
token_text [] = []
token_text (i ∷ rest) = decimal i ++ flat_map (λ n. 46 ∷ decimal n) rest

-- whether a piece of a box has its start, and its end
abbrev pub ends_text : Bool → Bool → List ℕ
ends_text starts ends = (if starts then codes "s" else codes "-") ++ (if ends then codes "e" else codes "-")

abbrev pub kind_words : TreeKind → List (List ℕ)
kind_words (stack s) = codes "stack" ∷ decimal s ∷ []
kind_words (row r from) = codes "row" ∷ decimal r ∷ token_text from ∷ []
kind_words (col i) = codes "col" ∷ decimal i ∷ []
kind_words (box b starts ends) = codes "box" ∷ decimal b ∷ ends_text starts ends ∷ []
kind_words (line b k) = codes "line" ∷ decimal b ∷ decimal k ∷ []
kind_words (void b) = codes "void" ∷ decimal b ∷ []
kind_words (image b) = codes "image" ∷ decimal b ∷ []
kind_words (atom k) = codes "atom" ∷ decimal k ∷ []

-- a line without its line feed: its depth, what it is of, and its rectangle
abbrev pub tree_line_words : TreeLine → List ℕ
tree_line_words t = decimal t.depth ++ spaced (kind_words t.kind ++ decimal t.x ∷ decimal t.y ∷ decimal t.w ∷ decimal t.h ∷ [])

abbrev pub tree_line_text : TreeLine → List ℕ
tree_line_text t = tree_line_words t ++ 10 ∷ []

abbrev pub tree_text : List TreeLine → List ℕ
tree_text lines = flat_map tree_line_text lines
