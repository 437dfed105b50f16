-- Worked lines of a tree, of kinds that no flow file has: a text line, an element without a text, and an image.
use Rattle.std.proofs.Common.{◌≡◌, ℕ, List, [], ◌∷◌, ◌++◌, refl}
use Rattle.std.specs.Prelude.{codes}
use Rattle.std.specs.Fmt.{digits}
use Rattle.flow_list.specs.Tree.{TreeKind, line, void, image, TreeLine}
use Rattle.flow_list.specs.TreeText.{tree_line_text}

abbrev of_kind : TreeKind → TreeLine
of_kind kind = record { depth = 1; kind = kind; x = 2; y = 3; w = 4; h = 5 }

line-text : tree_line_text (of_kind (line 8 9)) ≡ codes "1 line 8 9 2 3 4 5" ++ 10 ∷ []
unfolding digits
line-text = refl

void-text : tree_line_text (of_kind (void 6)) ≡ codes "1 void 6 2 3 4 5" ++ 10 ∷ []
unfolding digits
void-text = refl

image-text : tree_line_text (of_kind (image 12)) ≡ codes "1 image 12 2 3 4 5" ++ 10 ∷ []
unfolding digits
image-text = refl
