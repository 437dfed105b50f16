-- The data of a document has the boxes that its content names; each of its flows is good and has sound seams.
use Rattle.std.proofs.Common.{◌≡◌, ℕ, suc, ◌+◌, List, [], ◌∷◌, ◌++◌, length, drop, true, false, Option, map, refl, sym, ap, ◌∙◌}
use Rattle.std.proofs.Common.{subst, arith, append_assoc, append-nil, length-append, inl, inr}
use Rattle.std.specs.List.{AllByRecursion}
use Rattle.std.proofs.lemmas.List.{map-append, length-map}
use Rattle.flow_data.proofs.Dropped.{first_at, behind_first, behind_front}
use Rattle.flow_data.specs.declared.data.BoxInfo.{BoxInfo}
use Rattle.flow_data.specs.declared.data.FlowsData.{FlowsData}
use Rattle.flow_data.specs.Flows.{box_of, no_box}
use Rattle.html_grammar.specs.Tree.{Forest}
use Rattle.box_data.specs.declared.style.BoxStyle.{BoxStyle}
use Rattle.box_data.specs.BoxTree.{Boxes, none, box, box_count, in_order, boxes_of}
use Rattle.box_data.specs.declared.placed.Placed.{Placed}
use Rattle.box_data.specs.Widths.{placed}
use Rattle.line_breaker.specs.declared.line.Line.{Line}
use Rattle.box_data.specs.Content.{Content, done, content_of}
use Rattle.box_data.specs.DocumentFlows.{box_info, flow_with, flows_from, nothing_begun, flows_of_boxes}
use Rattle.doc_laws.proofs.Goes.{MayFill}
use Rattle.doc_laws.proofs.Rises.{Numbered, Rises}
use Rattle.doc_laws.proofs.GoodFlows.{IsGood, good_flow, good_flows}
use Rattle.doc_laws.proofs.Everywhere.{Each, Everywhere, in_content}
use Rattle.doc_laws.proofs.Cloned.{Knows}
use Rattle.doc_laws.proofs.Made.{document_goes, document_rises, document_numbered}

pub length-in_order : (boxes : Boxes Placed) → length (in_order boxes) ≡ box_count boxes
length-in_order none = refl
length-in_order (box p kids next) =
    let a = length-in_order kids in
    let b = length-in_order next in
    let both = length-append (in_order kids) (in_order next) in
    omega arith

-- the data's boxes from n on begin with these
abbrev StandAt : FlowsData → ℕ → Boxes Placed → List BoxInfo → Type 0
StandAt d n boxes after = drop n d.boxes ≡ map box_info (in_order boxes) ++ after

pub each_known : (d : FlowsData) (n : ℕ) (boxes : Boxes Placed) (after : List BoxInfo) → Numbered n boxes
    → StandAt d n boxes after → Each (Knows d) boxes
each_known d n none after h at = tt
each_known d n (box p kids next) after h at =
    let k1 = map box_info (in_order kids) in
    let k2 = map box_info (in_order next) in
    let whole : drop n d.boxes ≡ box_info p ∷ (k1 ++ (k2 ++ after)) =
    at ∙ ap (λ (bs : List BoxInfo). box_info p ∷ (bs ++ after)) (map-append box_info (in_order kids) (in_order next))
    ∙ ap (λ (bs : List BoxInfo). box_info p ∷ bs) (append_assoc k1 k2 after) in
    let inner : drop (suc n) d.boxes ≡ k1 ++ (k2 ++ after) = behind_first d.boxes (k1 ++ (k2 ++ after)) n (box_info p) whole in
    let counted : length k1 ≡ box_count kids = length-map (in_order kids) box_info ∙ length-in_order kids in
    let rest : drop (suc n + box_count kids) d.boxes ≡ k2 ++ after =
    behind_front d.boxes k1 (k2 ++ after) (suc n) (box_count kids) counted inner in (
      subst (λ (m : ℕ). box_of d m ≡ box_info p) (sym h.0) (first_at d.boxes (k1 ++ (k2 ++ after)) n (box_info p) no_box whole),
      each_known d (suc n) kids (k2 ++ after) h.1 inner,
      each_known d (suc n + box_count kids) next after h.2 rest,
    )

-- ---- the document

-- its flows, where its content is this
flows_good : (top : ℕ) (c : Content) → MayFill false c → Rises 0 top c → (c ≡ done → ⊥)
    → AllByRecursion (IsGood top) (flow_with [] nothing_begun c ∷ flows_from nothing_begun c)
flows_good top c (inl same) r some = absurd (some same)
flows_good top c (inr f) r some = (
  good_flow [] [] nothing_begun c 0 top (f []) tt r,
  good_flows nothing_begun true [] [] c 0 top top (f []) r (omega arith),
)

-- Whatever the styles, the lines, the width and the tree: where html is shown, each flow of the document's data is good.
pub document_flows_good : (styles : List BoxStyle) (lines : List (List Line)) (width : ℕ) (height : Option ℕ) (tree : Forest)
    → (content_of (placed styles lines width (boxes_of styles tree)) ≡ done → ⊥)
    → AllByRecursion (IsGood (0 + box_count (placed styles lines width (boxes_of styles tree))))
    (flows_of_boxes styles lines width height (boxes_of styles tree)).flows
document_flows_good styles lines width height tree some =
    let places = placed styles lines width (boxes_of styles tree) in
    flows_good (0 + box_count places) (content_of places) (document_goes styles lines width tree)
    (document_rises styles lines width tree) some

-- and the data has each box that its content names
pub document_knows : (styles : List BoxStyle) (lines : List (List Line)) (width : ℕ) (height : Option ℕ) (tree : Forest)
    → Everywhere (Knows (flows_of_boxes styles lines width height (boxes_of styles tree)))
    (content_of (placed styles lines width (boxes_of styles tree)))
document_knows styles lines width height tree =
    let places = placed styles lines width (boxes_of styles tree) in
    let d = flows_of_boxes styles lines width height (boxes_of styles tree) in
    in_content (Knows d) places (each_known d 0 places [] (document_numbered styles lines width tree)
    (sym (append-nil (map box_info (in_order places)))))
