-- The text of what was answered: lines of a tree, and lowered pieces (this project's own).
use Rattle.std.specs.Prelude.{ℕ, List, [], ◌∷◌, ◌++◌, codes}
use Rattle.std.specs.List.{flat_map}
use Rattle.std.specs.Fmt.{decimal}
use Rattle.flow_list.specs.ResultText.{line_words}
use Rattle.flow_list.specs.Tree.{TreeLine}
use Rattle.flow_list.specs.TreeText.{token_text, tree_text}
use Rattle.piece_data.specs.LoweredText.{unfit_line}
use Rattle.piece_finder.specs.Telling.{told_range}
use Rattle.piece_finder.specs.declared.reasons.PieceRange.{PieceRange}
use Rattle.row_all.specs.declared.answer.PieceLine.{PieceLine}

abbrev pub range_text : PieceRange → List ℕ
range_text range = unfit_line (told_range range) ++ 10 ∷ []

abbrev pub ranges_text : List PieceRange → List ℕ
ranges_text ranges = flat_map range_text ranges

-- a piece with its least height, and why no lesser height will do
abbrev pub piece_text : PieceLine → List ℕ
piece_text piece =
    (line_words (codes "piece" ∷ decimal piece.row ∷ token_text piece.from ∷ decimal piece.height ∷ decimal piece.out.height ∷ [])
    ++ 10 ∷ []) ++ ranges_text piece.out.ranges

abbrev pub pieces_text : List PieceLine → List ℕ
pieces_text pieces = flat_map piece_text pieces

-- the whole text of these lines and pieces
abbrev pub answer_text : List TreeLine → List PieceLine → List ℕ
answer_text lines pieces =
    codes "mcol-all 1\n" ++ (tree_text lines ++ (codes "pieces\n" ++ (pieces_text pieces ++ codes "end\n")))
