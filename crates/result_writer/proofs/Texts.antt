-- The text of a result, by its parts.
use Rattle.std.proofs.Common.{◌≡◌, ℕ, ◌<◌, List, [], ◌∷◌, ◌++◌, codes, length, map, refl, ap, sym, subst, ◌∙◌, append_assoc}
use Rattle.std.proofs.Common.{arith, length-append}
use Rattle.std.proofs.lemmas.List.Concat.{flat_map-append}
use Rattle.flow_list.specs.Data.{FlowsData}
use Rattle.flow_list.specs.ResultText.{certificate_lines, result_lines}
use Rattle.flow_list.specs.Tree.{tree_of, TreeLine}
use Rattle.flow_list.specs.TreeText.{tree_text, tree_line_words}
use Rattle.result_laws.specs.Given.{ended_lines}
use Rattle.result_writer.specs.Printed.{result_text}

abbrev pub ended : List ℕ → List ℕ
ended text = text ++ 10 ∷ []

tree-ended : (lines : List TreeLine) → ended_lines (map tree_line_words lines) ≡ tree_text lines
tree-ended [] = refl
tree-ended (l ∷ ls) = ap (λ ts. ended (tree_line_words l) ++ ts) (tree-ended ls)

pub by-parts : (d : FlowsData) → (codes "mcol 2\n" ++ tree_text (tree_of d)) ++ ended_lines (certificate_lines d) ≡ result_text d
unfolding result_text result_lines
by-parts d =
    append_assoc (codes "mcol 2\n") (tree_text (tree_of d)) (ended_lines (certificate_lines d))
    ∙ ap (λ ts. codes "mcol 2\n" ++ (ts ++ ended_lines (certificate_lines d))) (sym (tree-ended (tree_of d)))
    ∙ ap (λ ts. codes "mcol 2\n" ++ ts) (sym (flat_map-append ended (map tree_line_words (tree_of d)) (certificate_lines d)))

-- the text of the tree and the certificate after the first line
pub whole : (d : FlowsData) (first : List ℕ) → first ≡ codes "mcol 2\n"
    → (first ++ tree_text (tree_of d)) ++ ended_lines (certificate_lines d) ≡ result_text d
whole d first is = ap (λ (f : List ℕ). (f ++ tree_text (tree_of d)) ++ ended_lines (certificate_lines d)) is ∙ by-parts d

-- a result is no shorter than its first line
pub longer : (d : FlowsData) (most : ℕ) → most < length (codes "mcol 2\n") → most < length (result_text d)
longer d most over =
    let first = length-append (codes "mcol 2\n") (tree_text (tree_of d)) in
    let all = length-append (codes "mcol 2\n" ++ tree_text (tree_of d)) (ended_lines (certificate_lines d)) in
    subst (λ (text : List ℕ). most < length text) (by-parts d) (omega (arith, over, first, all))
