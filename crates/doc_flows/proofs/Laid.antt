-- The boxes of a well-formed document are what the builder of flows asks for, and what it answers is of the document.
use Rattle.std.proofs.Common.{◌≡◌, ◌⊎◌, inl, inr, ℕ, ◌+◌, ◌≤◌, ◌^◌, List, length, sum_by, sym, ap, subst, ◌∙◌, Option, Some, None, Result, Ok, Err, IfOk, IfErr}
use Rattle.std.specs.List.{AllByRecursion}
use Rattle.mc_base.specs.declared.refusal.Found.{Found}
use Rattle.mc_base.specs.declared.refusal.Refusal.{Refusal}
use Rattle.mc_base.specs.declared.refusal.Refusal.TheVariants as refusals
use Rattle.mc_base.specs.declared.refusal.Input.TheVariants as inputs
use Rattle.html_grammar.specs.declared.dom.Dom.{Dom}
use Rattle.html_grammar.specs.declared.dom.DomNode.{DomNode}
use Rattle.html_grammar.specs.Grammar.{depth_of}
use Rattle.html_grammar.specs.Tree.{Forest, nodes_from}
use Rattle.html_grammar.proofs.NodeOrder.{one_tree_of_nodes}
use Rattle.html_subset.specs.WellFormed.{IsWellFormed, node_bytes}
use Rattle.font_table.specs.declared.fonts.Face.{Face}
use Rattle.css_cascade.specs.declared.styles.NodeStyle.{NodeStyle}
use Rattle.flow_data.specs.declared.data.FlowsData.{FlowsData}
use Rattle.box_data.specs.declared.tree.BoxTree.{BoxTree}
use Rattle.box_data.specs.BoxTree.{tree_of, first_construct}
use Rattle.box_style.specs.Styles.{styles_in}
use Rattle.flow_build.specs.Build.{AreBoxesOf, HasFlows, PassesLimit}
use Rattle.css_data.specs.declared.rule.Sheet.{Sheet}
use Rattle.doc_flows.specs.declared.trees.BoxedFlows.{BoxedFlows}
use Rattle.doc_flows.specs.declared.flagged.FlaggedFlows.{FlaggedFlows}
use Rattle.doc_flows.specs.Reading.{Read, read_of}
use Rattle.doc_flows.specs.Flags.{HasFlags, HasTreeFlags}
use Rattle.row_flags.specs.Asking.{AreFlags, asking_rows, box_asks}
use Rattle.doc_flows.specs.Trees as trees
use Rattle.doc_flows.specs.Trees.{IsStyledTree, TreeSays, RefusesTree}
use Rattle.doc_flows.specs.Documents.{sheets_of, DocumentSays, RefusesDocument, laying}
use Rattle.doc_flows.specs.Parts.{AreLaid, IsRefused, memory, construct, limit}
use Rattle.doc_flows.proofs.Few.{HasFew, runs_are_few}

pub are_boxes : (dom : Dom) (styles : List (Option NodeStyle)) (boxes : BoxTree) (tree : Forest) → IsWellFormed dom
    → length styles ≡ length dom.nodes → dom.nodes ≡ nodes_from None 0 tree → boxes ≡ tree_of (styles_in styles) tree
    → AreBoxesOf styles tree boxes
are_boxes dom styles boxes tree formed size nodes same =
    let one = one_tree_of_nodes formed.tree tree (sym formed.nodes ∙ nodes) in
    record {
      depth = subst (λ t. depth_of t ≤ 64) one formed.depth;
      count = subst (λ (ns : List DomNode). length ns ≤ 2 ^ 28) nodes formed.count;
      each = size ∙ ap length nodes;
      same = same;
      few = subst (λ (boxes : BoxTree). AllByRecursion HasFew boxes.nodes) (sym same)
          (runs_are_few (styles_in styles) tree
          (subst (λ (ns : List DomNode). sum_by node_bytes ns ≤ 2 ^ 28 + 64) nodes formed.bytes));
    }

module _ (faces : List Face) (styles : List (Option NodeStyle)) (width : ℕ) (height : Option ℕ) (tree : Forest) where
  pub laid_flows : {E : Type 0} (boxes : BoxTree) (r : Result BoxedFlows E) → first_construct (styles_in styles) tree ≡ None
      → boxes ≡ tree_of (styles_in styles) tree → IfOk r (λ all. HasFlows faces styles width height tree all.flows)
      → IfOk r (λ all. all.boxes ≡ boxes) → IfOk r (λ all. AreLaid faces styles width height tree all)
  laid_flows boxes (Ok all) laid same flows kept = record { laid = laid; flows = flows; boxes = kept ∙ same }
  laid_flows boxes (Err e) laid same flows kept = tt

  pub laid_limit : {X : Type 0} (r : Result X Refusal) → first_construct (styles_in styles) tree ≡ None
      → IfErr r (λ e. (e ≡ refusals.NoMemory) ⊎ PassesLimit faces styles width height tree e)
      → IfErr r (λ e. IsRefused faces styles width height tree e)
  laid_limit (Ok x) laid h = h
  laid_limit (Err e) laid (inl is) = memory is
  laid_limit (Err e) laid (inr passes) = limit laid passes

  pub box_refused : (dom : Dom) (e : Refusal) → dom.nodes ≡ nodes_from None 0 tree
      → (e ≡ refusals.NoMemory) ⊎ ((tree : Forest) → dom.nodes ≡ nodes_from None 0 tree →
      (found : Found) × (first_construct (styles_in styles) tree ≡ Some found)
      × (e ≡ refusals.Construct inputs.Document found.offset found.name))
      → IsRefused faces styles width height tree e
  box_refused dom e nodes (inl is) = memory is
  box_refused dom e nodes (inr has) = let (found, there, is) = has tree nodes in construct found there is

-- ---- what is laid out is of the tree

module _ (dom : Dom) (sheets : List Sheet) (faces : List Face) (width : ℕ) (height : Option ℕ) where
  pub tree_says : (styles : List (Option NodeStyle)) (tree : Forest) (all : BoxedFlows) → IsStyledTree dom sheets styles tree
      → AreLaid faces styles width height tree all → TreeSays dom sheets faces width height all.flows
  tree_says styles tree all is h = record { styles = styles; tree = tree; is = is; laid = h.laid; flows = h.flows }

  pub tree_refused : (styles : List (Option NodeStyle)) (tree : Forest) (e : Refusal) → IsStyledTree dom sheets styles tree
      → IsRefused faces styles width height tree e → (e ≡ refusals.NoMemory) ⊎ RefusesTree dom sheets faces width height e
  tree_refused styles tree e is (memory same) = inl same
  tree_refused styles tree e is (construct found there same) = inr (trees.construct styles tree is found there same)
  tree_refused styles tree e is (limit laid passes) = inr (trees.limit styles tree is laid passes)

  pub flagged_says : (styles : List (Option NodeStyle)) (tree : Forest) (all : BoxedFlows) (r : Result FlaggedFlows Refusal)
      → IsStyledTree dom sheets styles tree → AreLaid faces styles width height tree all
      → IfOk r (λ flagged. flagged.flows ≡ all.flows)
      → IfOk r (λ flagged. TreeSays dom sheets faces width height flagged.flows)
  flagged_says styles tree all (Ok flagged) is h same =
      subst (TreeSays dom sheets faces width height) (sym same) (tree_says styles tree all is h)
  flagged_says styles tree all (Err e) is h same = tt

  pub flagged_flags : (styles : List (Option NodeStyle)) (tree : Forest) (all : BoxedFlows) (r : Result FlaggedFlows Refusal)
      → IsStyledTree dom sheets styles tree → AreLaid faces styles width height tree all
      → IfOk r (λ flagged. flagged.flows ≡ all.flows)
      → IfOk r (λ flagged. AreFlags all.flows (asking_rows (box_asks styles all.boxes.nodes) all.flows) flagged.flags)
      → IfOk r (λ flagged. HasTreeFlags dom sheets flagged.flows flagged.flags)
  flagged_flags styles tree all (Ok flagged) is h same flags =
      let at_boxes : AreFlags all.flows (asking_rows (box_asks styles (tree_of (styles_in styles) tree).nodes) all.flows)
      flagged.flags =
      subst (λ (boxes : BoxTree). AreFlags all.flows (asking_rows (box_asks styles boxes.nodes) all.flows) flagged.flags) h.boxes
      flags in
      subst (λ d. HasTreeFlags dom sheets d flagged.flags) (sym same)
      (record { styles = styles; tree = tree; is = is; asked = at_boxes })
  flagged_flags styles tree all (Err e) is h same flags = tt

-- ---- and what the tree of a document says, the document does

module _ (document sheet metrics : List ℕ) (width : ℕ) (height : Option ℕ) (r : Read)
    (read : read_of document sheet metrics ≡ Ok r) where
  pub document_says : {X E : Type 0} (flows_in : X → FlowsData) (answer : Result X E)
      → IfOk answer (λ x. TreeSays r.dom (sheets_of r) r.faces width height (flows_in x))
      → IfOk answer (λ x. DocumentSays document sheet metrics width height (flows_in x))
  document_says flows_in (Ok x) h = record { r = r; read = read; tree = h }
  document_says flows_in (Err e) h = tt

  pub document_refused : {X : Type 0} (answer : Result X Refusal)
      → IfErr answer (λ e. (e ≡ refusals.NoMemory) ⊎ RefusesTree r.dom (sheets_of r) r.faces width height e)
      → IfErr answer (λ e. (e ≡ refusals.NoMemory) ⊎ RefusesDocument document sheet metrics width height e)
  document_refused (Ok x) h = tt
  document_refused (Err e) (inl same) = inl same
  document_refused (Err e) (inr refused) = inr (laying r read refused)

pub document_flags : (document sheet metrics : List ℕ) (r : Read) → read_of document sheet metrics ≡ Ok r
    → (answer : Result FlaggedFlows Refusal) → IfOk answer (λ all. HasTreeFlags r.dom (sheets_of r) all.flows all.flags)
    → IfOk answer (λ all. HasFlags document sheet metrics all.flows all.flags)
document_flags document sheet metrics r read (Ok all) h = record { r = r; read = read; tree = h }
document_flags document sheet metrics r read (Err e) h = tt
