-- The lines of a layout whose flagged pieces are lowered (this project's own).
use Rattle.std.specs.Prelude.{ℕ, List, [], ◌∷◌, ◌++◌, map, codes}
use Rattle.std.specs.List.{flat_map}
use Rattle.std.specs.Fmt.{decimal}
use Rattle.flow_list.specs.Data.{FlowsData}
use Rattle.flow_list.specs.ResultText.{line_words}
use Rattle.flow_list.specs.TreeText.{token_text, tree_line_words}
use Rattle.piece_data.specs.LeastPiece.{Unfit, over, worse, other, UnfitRange, least_height, unfit_ranges}
use Rattle.piece_data.specs.Lowering.{Flags, CutPiece, lowered_tree, lowered_pieces}

abbrev pub unfit_words : Unfit → List (List ℕ)
unfit_words over = codes "over" ∷ []
unfit_words worse = codes "worse" ∷ []
unfit_words (other at) = codes "other" ∷ token_text at ∷ []

abbrev pub unfit_line : UnfitRange → List ℕ
unfit_line range = line_words (codes "range" ∷ decimal range.low ∷ decimal range.high ∷ unfit_words range.reason)

-- a piece with the height that it is cut at and its least height, and why no lesser height will do
abbrev pub cut_lines : FlowsData → CutPiece → List (List ℕ)
cut_lines d p =
    line_words (codes "piece" ∷ decimal p.row ∷ token_text p.from ∷ decimal p.height
    ∷ decimal (least_height d p.row p.from p.height) ∷ [])
    ∷ map unfit_line (unfit_ranges d p.row p.from p.height)

-- the lines of a layout whose flagged pieces are lowered, each without its line feed
unfoldable pub lowered_lines : FlowsData → Flags → List (List ℕ)
lowered_lines d flags =
    codes "mcol-all 1" ∷ map tree_line_words (lowered_tree d flags) ++ codes "pieces"
    ∷ flat_map (cut_lines d) (lowered_pieces d flags) ++ codes "end" ∷ []
