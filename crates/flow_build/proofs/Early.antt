-- The first computed length above the limit comes before the used ones.
use Rattle.std.proofs.Common.{◌≡◌, ℕ, ◌^◌, List, [], Option, Some, None, sym, ap, subst, ◌∙◌}
use Rattle.mc_base.specs.declared.refusal.LimitName.TheVariants.{Length}
use Rattle.mc_base.specs.declared.refusal.Refusal.TheVariants.{Limit}
use Rattle.html_grammar.specs.Tree.{Forest}
use Rattle.css_cascade.specs.declared.styles.NodeStyle.{NodeStyle}
use Rattle.box_data.specs.declared.tree.BoxTree.{BoxTree}
use Rattle.box_data.specs.BoxTree.{in_order, or_else}
use Rattle.box_data.specs.Limits.{first_above, greatest_length, passed, long, all_used_lengths}
use Rattle.box_style.specs.Lengths.{shown_lengths}
use Rattle.flow_build.specs.Build.{AreBoxesOf, document_places, early_limit}

module _ (entries : List (Option NodeStyle)) (width : ℕ) (tree : Forest) (boxes : BoxTree) (h : AreBoxesOf entries tree boxes) where
  first-is : (o : Option ℕ) → first_above (2 ^ 24) (shown_lengths entries boxes.shown) ≡ o → early_limit entries width tree
      ≡ or_else (passed o (λ n. Limit Length n greatest_length)) (long (all_used_lengths (in_order (document_places entries [] width tree))))
  first-is o e =
      let at = subst (λ s. first_above (2 ^ 24) (shown_lengths entries s) ≡ o) (ap (λ (b : BoxTree). b.shown) h.same) e in
      ap (λ o. or_else (passed o (λ n. Limit Length n greatest_length))
      (long (all_used_lengths (in_order (document_places entries [] width tree))))) at

  pub early-computed : (n : ℕ) → Some n ≡ first_above (2 ^ 24) (shown_lengths entries boxes.shown)
      → early_limit entries width tree ≡ Some (Limit Length n greatest_length)
  early-computed n e = first-is (Some n) (sym e)

  pub early-used : None ≡ first_above (2 ^ 24) (shown_lengths entries boxes.shown)
      → early_limit entries width tree ≡ long (all_used_lengths (in_order (document_places entries [] width tree)))
  early-used e = first-is None (sym e)
