-- What the limits of lengths give of the boxes in their places, and what the limits of flows give of their data.
use Rattle.std.proofs.Common.{◌≡◌, ℕ, suc, ◌+◌, ◌<◌, ◌^◌, List, [], ◌∷◌, ◌++◌, length, flat_map, refl, sym, ap, subst, ◌∙◌, ◌⊎◌}
use Rattle.std.proofs.Common.{inl, inr, Option, Some, None}
use Rattle.std.specs.List.{All}
use Rattle.mc_base.specs.declared.refusal.Refusal.{Refusal}
use Rattle.mc_base.specs.declared.refusal.LimitName.TheVariants.{Length}
use Rattle.mc_base.specs.declared.refusal.Refusal.TheVariants.{Limit}
use Rattle.html_grammar.specs.Tree.{Forest}
use Rattle.font_table.specs.declared.fonts.Face.{Face}
use Rattle.line_breaker.specs.declared.line.Line.{Line}
use Rattle.css_cascade.specs.declared.styles.NodeStyle.{NodeStyle}
use Rattle.flow_data.specs.declared.data.FlowsData.{FlowsData}
use Rattle.flow_data.specs.Soundness.{IsSound}
use Rattle.box_data.specs.declared.placed.Placed.{Placed}
use Rattle.box_data.specs.declared.style.BoxStyle.{BoxStyle}
use Rattle.box_data.specs.declared.tree.BoxTree.{BoxTree}
use Rattle.box_data.specs.BoxTree.{Boxes, none, box, box_count, Node, in_order, box_nodes, boxes_of, with_characters}
use Rattle.box_data.specs.BoxTree.{shown_from, or_else}
use Rattle.box_data.specs.Bounds.{IsShortNode}
use Rattle.box_data.specs.Widths.{Place, placed, placed_from, placed_one, place_in, outermost}
use Rattle.box_data.specs.Limits.{first_above, greatest_length, passed, long, used_lengths, all_used_lengths}
use Rattle.box_style.specs.Styles.{styles_in}
use Rattle.box_style.specs.Lengths.{shown_lengths}
use Rattle.box_style.specs.Laws.{StylesAreShort}
use Rattle.box_laws.specs.Laws.{BoxesNameShown}
use Rattle.doc_laws.specs.Laws.{IsNear, BoxesAreNear, DocumentsAreSound, AreNarrow}
use Rattle.flow_build.specs.Build.{AreBoxesOf, AreDocumentLines, document_boxes, document_places, document_data, early_limit}
use Rattle.flow_build.specs.Build.{limit_after, HasFlows, PassesLimit, late}
use Rattle.flow_build.proofs.Shapes.{short-document}

-- ---- used lengths don't depend on lines

used-append : (xs ys : List Placed) → all_used_lengths (xs ++ ys) ≡ all_used_lengths xs ++ all_used_lengths ys
used-append [] ys = refl
used-append (x ∷ xs) ys = ap (λ rest. used_lengths x ++ rest) (used-append xs ys) ∙ grouped (used_lengths x) (all_used_lengths xs) (all_used_lengths ys)
  where
    grouped : (a b c : List ℕ) → a ++ (b ++ c) ≡ (a ++ b) ++ c
    grouped [] b c = refl
    grouped (n ∷ a) b c = ap (λ rest. n ∷ rest) (grouped a b c)

same-used : (styles : List BoxStyle) (lines : List (List Line)) (parent : Option ℕ) (n : ℕ) (place : Place) (boxes : Boxes Node)
    → all_used_lengths (in_order (placed_from styles lines parent n place boxes))
    ≡ all_used_lengths (in_order (placed_from styles [] parent n place boxes))
same-used styles lines parent n place none = refl
same-used styles lines parent n place (box node kids next) =
    let p = placed_one styles [] parent n node place in
    let inner = place_in p place in
    let a = used-append (in_order (placed_from styles lines (Some n) (suc n) inner kids))
    (in_order (placed_from styles lines parent (suc n + box_count kids) place next)) in
    let b = used-append (in_order (placed_from styles [] (Some n) (suc n) inner kids))
    (in_order (placed_from styles [] parent (suc n + box_count kids) place next)) in
    let k = same-used styles lines (Some n) (suc n) inner kids in
    let m = same-used styles lines parent (suc n + box_count kids) place next in
    ap (λ rest. used_lengths p ++ rest) (a ∙ (λ i. k i ++ m i) ∙ sym b)

-- ---- limits that aren't passed

first-none : (a b : Option Refusal) → or_else a b ≡ None → a ≡ None
first-none None b h = refl
first-none (Some r) b h = absurd cc

second-none : (a b : Option Refusal) → or_else a b ≡ None → b ≡ None
second-none None b h = h
second-none (Some r) b h = absurd cc

low-of : (lengths : List ℕ) → long lengths ≡ None → first_above (2 ^ 24) lengths ≡ None
low-of lengths h = go (first_above (2 ^ 24) lengths) h
  where
    go : (o : Option ℕ) → passed o (λ n. Limit Length n greatest_length) ≡ None → o ≡ None
    go None h = refl
    go (Some n) h = absurd cc

module _ (short : StylesAreShort) (names : BoxesNameShown) (entries : List (Option NodeStyle)) (width : ℕ) (tree : Forest)
    (boxes : BoxTree) (h : AreBoxesOf entries tree boxes) (wide : width < 2 ^ 60) (early : early_limit entries width tree ≡ None)
    (lines : List (List Line)) where
  short-boxes : All (IsShortNode (styles_in entries)) (box_nodes None 0 (document_boxes entries tree))
  short-boxes = short-document short names entries tree
      (low-of (shown_lengths entries (shown_from (styles_in entries) 0 tree)) (first-none _ _ early))

  used-low : long (all_used_lengths (in_order (document_places entries lines width tree))) ≡ None
  used-low = ap long (same-used (styles_in entries) lines None 0 (outermost width) (document_boxes entries tree))
      ∙ second-none (long (shown_lengths entries (shown_from (styles_in entries) 0 tree))) _ early

  pub all-near : BoxesAreNear → All IsNear (in_order (document_places entries lines width tree))
  all-near law = law (styles_in entries) lines width tree h.depth h.count wide short-boxes used-low

  pub data-sound : DocumentsAreSound → (height : Option ℕ) → limit_after entries lines width height tree ≡ None → AreNarrow lines
      → IsSound (document_data entries lines width height tree)
  data-sound law height low narrow =
      law (styles_in entries) lines width height tree h.depth h.count wide short-boxes used-low low narrow

-- ---- why it is refused

pub limit-is : {Memory : Type 0} (faces : List Face) (entries : List (Option NodeStyle)) (width : ℕ) (height : Option ℕ) (tree : Forest)
    (lines : List (List Line)) → early_limit entries width tree ≡ None → AreDocumentLines faces entries width tree lines → (e : Refusal)
    → Memory ⊎ (limit_after entries lines width height tree ≡ Some e) → Memory ⊎ PassesLimit faces entries width height tree e
limit-is faces entries width height tree lines early broken e (inl m) = inl m
limit-is faces entries width height tree lines early broken e (inr q) = inr (late early lines broken q)
