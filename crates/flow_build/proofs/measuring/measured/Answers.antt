use Rattle.std.proofs.Common.{◌≡◌, ◌^◌, None, sym, subst, ap, ◌∙◌}
use Rattle.std.specs.List.{All}
use Rattle.box_data.specs.Bounds.{IsShortNode}
use Rattle.box_data.specs.Limits.{first_above}
use Rattle.box_style.specs.Lengths.{shown_lengths}
use Rattle.flow_build.proofs.Shapes.{few-boxes, all-short}
use Rattle.flow_build.proofs.measuring.measured.Goals as goal

pub places-requires-clause-few : goal.places-requires-clause-few
places-requires-clause-few c = few-boxes c.args.styles.now c.requires.made.0 c.args.boxes.now c.requires.made.1

pub places-requires-clause-short : goal.places-requires-clause-short
places-requires-clause-short c =
    let low : first_above (2 ^ 24) (shown_lengths c.args.styles.now c.args.boxes.now.shown) ≡ None =
    ap (λ s. first_above (2 ^ 24) (shown_lengths c.args.styles.now s)) (sym c.as_slice.ensures) ∙ sym c.first_long.ensures ∙ c.in-None.is in
    subst (λ kinds. All (IsShortNode kinds) c.args.boxes.now.nodes) (sym c.requires.kinds)
    (all-short c.styles_are_short.ensures c.boxes_name_shown_elements.ensures c.args.styles.now c.requires.made.0 c.args.boxes.now
    c.requires.made.1 low)
