-- A document's tree has one answer: its styles, its tree and its lines are one, and all else follows from these.
use Rattle.std.proofs.Common.{◌≡◌, ℕ, List, [], sym, ap, subst, ◌∙◌, Option, Some, None}
use Rattle.mc_base.specs.declared.refusal.Refusal.{Refusal}
use Rattle.mc_base.specs.declared.refusal.Refusal.TheVariants.{Construct, Grammar, NoMemory}
use Rattle.mc_base.specs.declared.refusal.Input.{Input}
use Rattle.mc_base.specs.declared.refusal.Input.TheVariants.{Document}
use Rattle.mc_base.specs.declared.refusal.Rule.{Rule}
use Rattle.html_grammar.specs.declared.dom.Dom.{Dom}
use Rattle.html_grammar.specs.Tree.{Forest}
use Rattle.html_grammar.proofs.NodeOrder.{earlier, one_tree_of_nodes}
use Rattle.css_data.specs.declared.rule.Sheet.{Sheet}
use Rattle.css_select.specs.Places.{ParentsAreEarlier}
use Rattle.css_cascade.specs.declared.styles.NodeStyle.{NodeStyle}
use Rattle.css_cascade.proofs.OneStyling.{one_styling}
use Rattle.line_breaker.specs.declared.line.Line.{Line}
use Rattle.font_table.specs.declared.fonts.Face.{Face}
use Rattle.flow_data.specs.declared.data.FlowsData.{FlowsData}
use Rattle.box_data.specs.BoxTree.{in_order, shown_from, first_construct}
use Rattle.box_data.specs.Content.{content_of}
use Rattle.box_data.specs.Limits.{long, all_used_lengths}
use Rattle.box_style.specs.Styles.{styles_in}
use Rattle.box_style.specs.Texts.{run_texts}
use Rattle.box_style.specs.Lengths.{shown_lengths}
use Rattle.flow_build.specs.Build.{AreDocumentLines, HasFlows, PassesLimit, early, late, document_boxes, document_places, document_data, early_limit, limit_after}
use Rattle.doc_flows.specs.Trees.{IsStyledTree, TreeSays, RefusesTree, construct, limit}
use Rattle.doc_flows.specs.Laws.{OneTreeAnswer}
use Rattle.doc_flows.proofs.OneLines.{one_lines}
use Rattle.doc_flows.proofs.Limits.{IsLimit, either_limit, long_limit, late_limits}

-- ---- answers

some_one : {X : Type 0} (o : Option X) (a b : X) → o ≡ Some a → o ≡ Some b → a ≡ b
some_one o a b x y = let same : Some a ≡ Some b = sym x ∙ y in cc

not_none : {X : Type 0} (o : Option X) (a : X) → o ≡ Some a → o ≡ None → ⊥
not_none o a x y = let same : Some a ≡ None = sym x ∙ y in absurd cc

-- ---- flows and limits of what has its styles

module _ (faces : List Face) (entries : List (Option NodeStyle)) (width : ℕ) (height : Option ℕ) (tree : Forest) where
  lines_one : (lines others : List (List Line)) → AreDocumentLines faces entries width tree lines
      → AreDocumentLines faces entries width tree others → lines ≡ others
  lines_one lines others x y =
      one_lines faces (run_texts faces entries) (styles_in entries) width (document_boxes entries tree) lines others x y

  flows_one : (c d : FlowsData) → HasFlows faces entries width height tree c → HasFlows faces entries width height tree d → c ≡ d
  flows_one c d x y =
      x.same ∙ (ap (λ lines. document_data entries lines width height tree) (lines_one x.lines y.lines x.broken y.broken) ∙ sym y.same)

  limit_one : (c d : Refusal) → PassesLimit faces entries width height tree c → PassesLimit faces entries width height tree d → c ≡ d
  limit_one c d (early x) (early y) = some_one (early_limit entries width tree) c d x y
  limit_one c d (early x) (late none others broken y) = absurd (not_none (early_limit entries width tree) c x none)
  limit_one c d (late none lines broken x) (early y) = absurd (not_none (early_limit entries width tree) d y none)
  limit_one c d (late none lines broken x) (late also others too y) =
      let same = lines_one lines others broken too in
      some_one (limit_after entries lines width height tree) c d x
      (subst (λ lines. limit_after entries lines width height tree ≡ Some d) (sym same) y)

  flows_or_limit : (d : FlowsData) (c : Refusal) → HasFlows faces entries width height tree d
      → PassesLimit faces entries width height tree c → ⊥
  flows_or_limit d c x (early y) = not_none (early_limit entries width tree) c y x.early
  flows_or_limit d c x (late none lines broken y) =
      let same = lines_one lines x.lines broken x.broken in
      not_none (limit_after entries x.lines width height tree) c
      (subst (λ lines. limit_after entries lines width height tree ≡ Some c) same y) x.late

  only_limits : (e : Refusal) → PassesLimit faces entries width height tree e → IsLimit e
  only_limits e (early x) =
      let computed = shown_lengths entries (shown_from (styles_in entries) 0 tree) in
      let used = all_used_lengths (in_order (document_places entries [] width tree)) in
      either_limit (long computed) (long used) (long_limit computed) (long_limit used) e x
  only_limits e (late none lines broken x) =
      late_limits (in_order (document_places entries lines width tree)) (content_of (document_places entries lines width tree))
      (document_data entries lines width height tree) e x

-- ---- the styles and the tree

pub record AreSame (a b : List (Option NodeStyle)) (f g : Forest) : Type 0 where
  pub styles : a ≡ b
  pub trees : f ≡ g

-- what holds of the one holds of the other
pub carried : (P : List (Option NodeStyle) → Forest → Type 0) (a b : List (Option NodeStyle)) (f g : Forest)
    → AreSame a b f g → P b g → P a f
carried P a b f g same h = subst (λ a. P a f) (sym same.styles) (subst (λ f. P b f) (sym same.trees) h)

module _ (dom : Dom) (sheets : List Sheet) where
  pub styled_one : (a b : List (Option NodeStyle)) (f g : Forest) → IsStyledTree dom sheets a f → IsStyledTree dom sheets b g
      → AreSame a b f g
  styled_one a b f g x y =
      let parents : ParentsAreEarlier dom = λ n p is. (earlier dom.nodes f n p x.nodes is).0 in
      record {
        styles = one_styling sheets dom a b parents x.styled y.styled;
        trees = one_tree_of_nodes f g (sym x.nodes ∙ y.nodes);
      }

-- ---- the law

module _ (dom : Dom) (sheets : List Sheet) (faces : List Face) (width : ℕ) (height : Option ℕ) where
  pub tree_flows_one : (c d : FlowsData) → TreeSays dom sheets faces width height c → TreeSays dom sheets faces width height d
      → c ≡ d
  tree_flows_one c d x y =
      let same = styled_one dom sheets x.styles y.styles x.tree y.tree x.is y.is in
      flows_one faces x.styles width height x.tree c d x.flows
      (carried (λ styles tree. HasFlows faces styles width height tree d) x.styles y.styles x.tree y.tree same y.flows)

  pub tree_reason_one : (c d : Refusal) → RefusesTree dom sheets faces width height c
      → RefusesTree dom sheets faces width height d → c ≡ d
  tree_reason_one c d (construct styles tree is found has e) (construct others other also again too f) =
      let same = styled_one dom sheets styles others tree other is also in
      let there = carried (λ styles tree. first_construct (styles_in styles) tree ≡ Some again) styles others tree other same too
      in
      let one = some_one (first_construct (styles_in styles) tree) found again has there in
      e ∙ (ap (λ found. Construct Document found.offset found.name) one ∙ sym f)
  tree_reason_one c d (construct styles tree is found has e) (limit others other also laid passes) =
      let same = styled_one dom sheets styles others tree other is also in
      absurd (not_none (first_construct (styles_in styles) tree) found has
      (carried (λ styles tree. first_construct (styles_in styles) tree ≡ None) styles others tree other same laid))
  tree_reason_one c d (limit styles tree is laid passes) (construct others other also found has e) =
      let same = styled_one dom sheets styles others tree other is also in
      absurd (not_none (first_construct (styles_in styles) tree) found
      (carried (λ styles tree. first_construct (styles_in styles) tree ≡ Some found) styles others tree other same has) laid)
  tree_reason_one c d (limit styles tree is laid passes) (limit others other also too exceeds) =
      let same = styled_one dom sheets styles others tree other is also in
      limit_one faces styles width height tree c d passes
      (carried (λ styles tree. PassesLimit faces styles width height tree d) styles others tree other same exceeds)

  pub tree_flows_or_reason : (d : FlowsData) (c : Refusal) → TreeSays dom sheets faces width height d
      → RefusesTree dom sheets faces width height c → ⊥
  tree_flows_or_reason d c x (construct styles tree is found has e) =
      let same = styled_one dom sheets x.styles styles x.tree tree x.is is in
      not_none (first_construct (styles_in x.styles) x.tree) found
      (carried (λ styles tree. first_construct (styles_in styles) tree ≡ Some found) x.styles styles x.tree tree same has) x.laid
  tree_flows_or_reason d c x (limit styles tree is laid passes) =
      let same = styled_one dom sheets x.styles styles x.tree tree x.is is in
      flows_or_limit faces x.styles width height x.tree d c x.flows
      (carried (λ styles tree. PassesLimit faces styles width height tree c) x.styles styles x.tree tree same passes)

  pub tree_reason_known : RefusesTree dom sheets faces width height NoMemory → ⊥
  tree_reason_known (construct styles tree is found has e) = absurd cc
  tree_reason_known (limit styles tree is laid passes) = only_limits faces styles width height tree NoMemory passes

  tree_no_grammar : (input : Input) (offset : ℕ) (rule : Rule)
      → RefusesTree dom sheets faces width height (Grammar input offset rule) → ⊥
  tree_no_grammar input offset rule (construct styles tree is found has e) = absurd cc
  tree_no_grammar input offset rule (limit styles tree is laid passes) =
      only_limits faces styles width height tree (Grammar input offset rule) passes

pub one_tree_answer : OneTreeAnswer
one_tree_answer = record {
  flows = tree_flows_one;
  reason = tree_reason_one;
  either = tree_flows_or_reason;
  known = tree_reason_known;
  grammar = tree_no_grammar;
}
