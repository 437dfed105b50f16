use Rattle.std.proofs.Common.{◌≡◌, ◌⊎◌, Some, None, sym, subst, ◌∙◌}
use Rattle.std.specs.Prelude.{IfOk, IfErr}
use Rattle.mc_base.specs.declared.refusal.Refusal.TheVariants.{NoMemory as Memory}
use Rattle.std.specs.List.{All}
use Rattle.flow_data.specs.Soundness.{IsSound}
use Rattle.doc_laws.specs.Laws.{IsNear}
use Rattle.box_data.specs.BoxTree.{in_order, with_characters}
use Rattle.box_style.specs.Styles.{styles_in}
use Rattle.box_data.specs.Content.{content_of}
use Rattle.box_data.specs.Limits.{late_limit}
use Rattle.flow_build.specs.Build.{document_boxes, document_data, document_places, limit_after}
use Rattle.flow_build.proofs.Near.{all-near, data-sound, limit-is}
use Rattle.flow_build.proofs.building.build_with.Goals as goal

pub made_flows-requires : goal.made_flows-requires
made_flows-requires g c =
    let tree = c.requires.made.0 in
    let h = c.requires.made.1 in
    let places = c.in_ok-places.ensures.places tree h in
    let made = c.in_ok-placed.ensures.lines tree c.args.width h places.0 in
    record {
      near = subst (All IsNear) (sym (c.as_slice-2.ensures ∙ made.2))
          (all-near c.styles_are_short.ensures c.boxes_name_shown_elements.ensures c.args.styles.now c.args.width tree c.args.boxes.now h
          c.requires.wide places.1 made.0 c.boxes_are_near.ensures);
    }

pub seal-requires : goal.seal-requires
seal-requires g c =
    let tree = c.requires.made.0 in
    let h = c.requires.made.1 in
    let places = c.in_ok-places.ensures.places tree h in
    let made = c.in_ok-placed.ensures.lines tree c.args.width h places.0 in
    let boxes = document_places c.args.styles.now made.0 c.args.width tree in
    let told = c.made_flows.ensures.flows boxes (c.as_slice-2.ensures ∙ made.2)
    (c.places_are_parented.ensures.parented (styles_in c.args.styles.now) made.0 c.args.width
    (document_boxes c.args.styles.now tree))
    (c.contents_are_nested.ensures (styles_in c.args.styles.now) made.0 c.args.width (with_characters tree)).0 in
    let it = subst (λ r. IfOk r (λ d. (d ≡ document_data c.args.styles.now made.0 c.args.width c.args.height tree)
    × (late_limit (in_order boxes) (content_of boxes) d ≡ None))) c.in-Ok.is told in
    subst IsSound (sym it.0)
    (data-sound c.styles_are_short.ensures c.boxes_name_shown_elements.ensures c.args.styles.now c.args.width tree c.args.boxes.now h
    c.requires.wide places.1 made.0 c.documents_are_sound.ensures c.args.height
    (subst (λ d. late_limit (in_order boxes) (content_of boxes) d ≡ None) it.0 it.1) made.3)

pub returns-clause-limit : goal.returns-clause-limit
returns-clause-limit g c tree h =
    let places = c.in_ok-places.ensures.places tree h in
    let made = c.in_ok-placed.ensures.lines tree c.args.width h places.0 in
    let boxes = document_places c.args.styles.now made.0 c.args.width tree in
    let told = c.made_flows.ensures.limit boxes (c.as_slice-2.ensures ∙ made.2)
    (c.places_are_parented.ensures.parented (styles_in c.args.styles.now) made.0 c.args.width
    (document_boxes c.args.styles.now tree))
    (c.contents_are_nested.ensures (styles_in c.args.styles.now) made.0 c.args.width (with_characters tree)).0 in
    let it = subst (λ r. IfErr r (λ e. (e ≡ Memory)
    ⊎ (limit_after c.args.styles.now made.0 c.args.width c.args.height tree ≡ Some e))) c.in-Err.is told in
    limit-is c.args.fonts.now c.args.styles.now c.args.width c.args.height tree made.0 places.1 made.1 c.in-Err.refusal it
