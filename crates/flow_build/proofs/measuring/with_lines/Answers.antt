use Rattle.std.proofs.Common.{◌≡◌, false, length, sym, ap, ◌∙◌}
use Rattle.std.proofs.lemmas.List.{length-map}
use Rattle.std.specs.List.{list_any}
use Rattle.flow_build.specs.Few.{has_long_run}
use Rattle.box_style.specs.Texts.{entry_text}
use Rattle.flow_build.proofs.Shapes.{all-named}
use Rattle.flow_build.proofs.measuring.with_lines.Goals as goal

pub break_boxes-requires-clause-named : goal.break_boxes-requires-clause-named
break_boxes-requires-clause-named g c =
    let few : list_any has_long_run c.args.boxes.now.nodes ≡ false =
    ap (list_any has_long_run) (sym c.as_slice.ensures) ∙ sym c.has_long_run.ensures ∙ c.if-has_long_run.false in
    all-named c.boxes_name_shown_elements.ensures c.args.styles.now c.requires.made.0 c.args.boxes.now c.in_ok-texts.texts
    c.requires.made.1 (ap length c.in_ok-texts.ensures.texts ∙ length-map c.args.styles.now (entry_text c.args.fonts.now)) few
