-- The rows of a document's flows have one list of flags.
use Rattle.std.proofs.Common.{◌≡◌, ℕ, suc, ◌<◌, ◌∷◌, [], Bool, false, List, length, get_or, refl, sym, subst, ◌∙◌, Option, arith}
use Rattle.html_grammar.specs.declared.dom.Dom.{Dom}
use Rattle.html_grammar.specs.Tree.{Forest}
use Rattle.css_data.specs.declared.rule.Sheet.{Sheet}
use Rattle.css_cascade.specs.declared.styles.NodeStyle.{NodeStyle}
use Rattle.flow_data.specs.declared.data.FlowsData.{FlowsData}
use Rattle.box_data.specs.BoxTree.{tree_of}
use Rattle.box_style.specs.Styles.{styles_in}
use Rattle.row_flags.specs.Asking.{AreFlags, asking_rows, box_asks}
use Rattle.doc_flows.specs.Reading.{Read, read_of}
use Rattle.doc_flows.specs.Documents.{sheets_of}
use Rattle.doc_flows.specs.Flags.{HasFlags, HasTreeFlags}
use Rattle.doc_flows.specs.Laws.{OneFlagging}
use Rattle.doc_flows.proofs.OneAnswer.{ok_one}
use Rattle.doc_flows.proofs.OneTree.{carried, styled_one}

same_flags : (a b : List Bool) → length a ≡ length b → ((k : ℕ) → k < length a → get_or a k false ≡ get_or b k false) → a ≡ b
same_flags [] [] e at = refl
same_flags [] (y ∷ ys) e at = let no : ⊥ = omega (arith, e) in absurd no
same_flags (x ∷ xs) [] e at = let no : ⊥ = omega (arith, e) in absurd no
same_flags (x ∷ xs) (y ∷ ys) e at =
    let first : x ≡ y = at 0 (omega arith) in
    let rest = same_flags xs ys (omega (arith, e)) (λ k less. at (suc k) (omega (arith, less))) in
    λ i. first i ∷ rest i

one_of_rows : (d : FlowsData) (rows : List ℕ) (a b : List Bool) → AreFlags d rows a → AreFlags d rows b → a ≡ b
one_of_rows d rows a b x y =
    same_flags a b (x.count ∙ sym y.count)
    (λ k less. let within : k < length d.rows = subst (λ n. k < n) x.count less in x.each k within ∙ sym (y.each k within))

one_of_tree : (dom : Dom) (sheets : List Sheet) (d : FlowsData) (a b : List Bool) → HasTreeFlags dom sheets d a
    → HasTreeFlags dom sheets d b → a ≡ b
one_of_tree dom sheets d a b x y =
    let asking : List (Option NodeStyle) → Forest → List ℕ =
    λ styles tree. asking_rows (box_asks styles (tree_of (styles_in styles) tree).nodes) d in
    let same = styled_one dom sheets x.styles y.styles x.tree y.tree x.is y.is in
    one_of_rows d (asking x.styles x.tree) a b x.asked
    (carried (λ styles tree. AreFlags d (asking styles tree) b) x.styles y.styles x.tree y.tree same y.asked)

one_of_document : (document sheet metrics : List ℕ) (d : FlowsData) (a b : List Bool) → HasFlags document sheet metrics d a
    → HasFlags document sheet metrics d b → a ≡ b
one_of_document document sheet metrics d a b x y =
    let same = ok_one (read_of document sheet metrics) y.r x.r y.read x.read in
    one_of_tree x.r.dom (sheets_of x.r) d a b x.tree
    (subst (λ (r : Read). HasTreeFlags r.dom (sheets_of r) d b) same y.tree)

pub one_flagging : OneFlagging
one_flagging = record { flags = one_of_document }
