use Rattle.std.proofs.Common.{◌≡◌, List, length, All, sym, subst, ◌∙◌, arith, take_at}
use Rattle.box_data.specs.declared.placed.Placed.{Placed}
use Rattle.box_lines.proofs.SmallImages.{HasSmall, small_images}
use Rattle.box_lines.proofs.TreeLines.{lines_of_tree}
use Rattle.box_lines.proofs.breaking.break_boxes.Goals as goal

pub break_all-requires-clause-small : goal.break_all-requires-clause-small
break_all-requires-clause-small g c =
    let P : List Placed → Type 0 = λ places. All HasSmall places in
    subst P (sym (c.deref_mut.ensures.value ∙ c.into_vec-places.ensures)) (small_images c.args.places c.requires.lengths)

pub returns-clause-made : goal.returns-clause-made
returns-clause-made g c styles width tree is_nodes are_places =
    let same : length c.deref_mut.result.now ≡ length c.break_all.new.places = omega (arith, c.break_all.auto.places) in
    let len : length c.break_all.new.places ≡ c.into_vec-places.result.len = omega (arith, same, c.deref_mut.ensures.len) in
    let made_is : c.of.result ≡ c.break_all.new.places = c.of.ensures
    ∙ take_at c.break_all.new.places _ c.into_vec-places.result.len len in
    let old_is : c.deref_mut.result.now ≡ c.args.places = c.deref_mut.ensures.value ∙ c.into_vec-places.ensures in
    let found = lines_of_tree c.args.fonts.now c.args.texts styles width tree c.as_slice.result.now c.deref_mut.result.now
    c.break_all.new.places (c.as_slice.ensures ∙ is_nodes) (old_is ∙ are_places) same c.in_ok-break_all.ensures.made in
    (found.lines, found.are, made_is ∙ found.made_is, found.widths, found.few)
