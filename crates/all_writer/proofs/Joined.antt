-- The lines of what was answered are those of the flows with the flagged pieces lowered.
use Rattle.std.proofs.Common.{◌≡◌, ℕ, suc, List, [], ◌∷◌, ◌++◌, All, map, refl, sym, ap}
use Rattle.std.proofs.Common.{◌∙◌, arith, append_assoc}
use Rattle.std.specs.Prelude.{codes}
use Rattle.std.specs.List.{flat_map}
use Rattle.std.specs.Fmt.{decimal}
use Rattle.std.proofs.lemmas.Grind.{flat_map-append}
use Rattle.flow_list.specs.Data.{FlowsData}
use Rattle.flow_list.specs.ResultText.{line_words}
use Rattle.flow_list.specs.Tree.{TreeLine}
use Rattle.flow_list.specs.TreeText.{token_text, tree_line_words, tree_text}
use Rattle.frag_pool.specs.Nodes.{Nodes}
use Rattle.piece_data.specs.LeastPiece.{UnfitRange, unfit_ranges}
use Rattle.piece_data.specs.Lowering.{Flags, CutPiece, lowered_tree, lowered_pieces}
use Rattle.piece_data.specs.LoweredText.{unfit_line, cut_lines, lowered_lines}
use Rattle.piece_finder.specs.Telling.{told_range, told_ranges}
use Rattle.piece_finder.specs.declared.reasons.PieceRange.{PieceRange}
use Rattle.lowered_laws.specs.Layout.{IsLoweredLayout}
use Rattle.row_all.specs.Answered.{piece_of, IsTrueLine, IsLowered}
use Rattle.row_all.specs.declared.answer.AllOut.{AllOut}
use Rattle.row_all.specs.declared.answer.PieceLine.{PieceLine}
use Rattle.all_writer.specs.AllText.{all_text}
use Rattle.all_writer.specs.PieceText.{ranges_text, piece_text, pieces_text, answer_text}

-- lines with their line feeds
abbrev ended : List (List ℕ) → List ℕ
ended lines = flat_map (λ (line : List ℕ). line ++ 10 ∷ []) lines

tree-ended : (ls : List TreeLine) → ended (map tree_line_words ls) ≡ tree_text ls
tree-ended [] = refl
tree-ended (l ∷ ls) = ap (λ (rest : List ℕ). (tree_line_words l ++ 10 ∷ []) ++ rest) (tree-ended ls)

ranges-ended : (xs : List PieceRange) → ended (map unfit_line (told_ranges xs)) ≡ ranges_text xs
ranges-ended [] = refl
ranges-ended (x ∷ xs) = ap (λ (rest : List ℕ). (unfit_line (told_range x) ++ 10 ∷ []) ++ rest) (ranges-ended xs)

-- the line of a piece
abbrev head_line : PieceLine → ℕ → List ℕ
head_line p least =
    line_words (codes "piece" ∷ decimal p.row ∷ token_text p.from ∷ decimal p.height ∷ decimal least ∷ [])

five-parts : (a t b p c : List ℕ) → ((a ++ t) ++ (b ++ p)) ++ c ≡ a ++ (t ++ (b ++ (p ++ c)))
five-parts a t b p c = simp append_assoc

-- three lines of their own, with lines between them
three-parts : (tree pieces : List (List ℕ)) →
    ended ((codes "mcol-all 1" ∷ tree ++ codes "pieces" ∷ pieces) ++ codes "end" ∷ [])
    ≡ codes "mcol-all 1\n" ++ (ended tree ++ (codes "pieces\n" ++ (ended pieces ++ codes "end\n")))
three-parts tree pieces =
    let f : List ℕ → List ℕ = λ line. line ++ 10 ∷ [] in
    flat_map-append f (codes "mcol-all 1" ∷ tree ++ codes "pieces" ∷ pieces) (codes "end" ∷ [])
    ∙ ap (λ (s : List ℕ). s ++ codes "end\n") (flat_map-append f (codes "mcol-all 1" ∷ tree) (codes "pieces" ∷ pieces))
    ∙ five-parts (codes "mcol-all 1\n") (ended tree) (codes "pieces\n") (ended pieces) (codes "end\n")

module _ (d : FlowsData) (nodes : Nodes) where
  piece-ended : (p : PieceLine) → IsTrueLine d nodes p → ended (cut_lines d (piece_of p)) ≡ piece_text p
  piece-ended p is =
      ap (λ (least : ℕ). (head_line p least ++ 10 ∷ [])
      ++ ended (map unfit_line (unfit_ranges d p.row p.from p.height))) (sym is.least.height)
      ∙ ap (λ (xs : List UnfitRange). (head_line p p.out.height ++ 10 ∷ []) ++ ended (map unfit_line xs)) (sym is.least.reasons)
      ∙ ap (λ (rest : List ℕ). (head_line p p.out.height ++ 10 ∷ []) ++ rest) (ranges-ended p.out.ranges)

  pieces-ended : (ps : List PieceLine) → All (IsTrueLine d nodes) ps
      → ended (flat_map (cut_lines d) (map piece_of ps)) ≡ pieces_text ps
  pieces-ended [] all = refl
  pieces-ended (p ∷ ps) all =
      flat_map-append (λ (line : List ℕ). line ++ 10 ∷ []) (cut_lines d (piece_of p)) (flat_map (cut_lines d) (map piece_of ps))
      ∙ ap (λ (first : List ℕ). first ++ ended (flat_map (cut_lines d) (map piece_of ps)))
      (piece-ended p (all 0 p (omega arith)))
      ∙ ap (λ (rest : List ℕ). piece_text p ++ rest) (pieces-ended ps (λ k e lt. all (suc k) e (omega arith)))

  answer-ended : (flags : Flags) (all : AllOut) → IsLowered d flags nodes all
      → answer_text (lowered_tree d flags) all.pieces ≡ all_text d flags
  unfolding lowered_lines
  answer-ended flags all is = sym (three-parts (map tree_line_words (lowered_tree d flags))
      (flat_map (cut_lines d) (lowered_pieces d flags))
      ∙ ap (λ (t : List ℕ). codes "mcol-all 1\n" ++ (t ++ (codes "pieces\n"
      ++ (ended (flat_map (cut_lines d) (lowered_pieces d flags)) ++ codes "end\n")))) (tree-ended (lowered_tree d flags))
      ∙ ap (λ (ps : List CutPiece). codes "mcol-all 1\n" ++ (tree_text (lowered_tree d flags) ++ (codes "pieces\n"
      ++ (ended (flat_map (cut_lines d) ps) ++ codes "end\n")))) (sym is.pieces)
      ∙ ap (λ (t : List ℕ). codes "mcol-all 1\n" ++ (tree_text (lowered_tree d flags) ++ (codes "pieces\n"
      ++ (t ++ codes "end\n")))) (pieces-ended all.pieces is.lines))

  pub layout-answered : (flags : Flags) (all : AllOut) → IsLowered d flags nodes all → IsLoweredLayout d flags all.laid nodes
  layout-answered flags all is = record {
    count = is.count;
    height = λ s entry there. (is.stacks s entry there).height;
    stands = λ s entry there. (is.stacks s entry there).frag;
  }

  -- what is written of these lines
  pub answer-is : (flags : Flags) (all : AllOut) (lines : List TreeLine) → IsLowered d flags nodes all
      → lines ≡ lowered_tree d flags → answer_text lines all.pieces ≡ all_text d flags
  answer-is flags all lines is same =
      ap (λ (ls : List TreeLine). answer_text ls all.pieces) same ∙ answer-ended flags all is
