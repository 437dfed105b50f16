use Rattle.std.proofs.Common.{◌^◌}
use Rattle.box_places.specs.Parts.{across_in}
use Rattle.box_places.proofs.OneBox.{short_style, small_attributes, placed_is, same_answer}
use Rattle.box_places.proofs.placing.placed_one.Goals as goal

pub framed-frame-requires-clause-short : goal.framed-frame-requires-clause-short
framed-frame-requires-clause-short c =
    rw c.style_in.ensures (short_style c.args.styles.now c.args.node.now c.requires.short.style)

pub extent_of-h-requires-clause-frame : goal.extent_of-h-requires-clause-frame
extent_of-h-requires-clause-frame c = c.framed-frame.ensures.within (2 ^ 60) c.requires.around

pub extent_of-h-requires-clause-attributes : goal.extent_of-h-requires-clause-attributes
extent_of-h-requires-clause-attributes c =
    rw c.attributes_of.ensures (small_attributes c.args.styles.now c.args.node.now.runs c.requires.short.images)

pub placed_by-requires-clause-frame : goal.placed_by-requires-clause-frame
placed_by-requires-clause-frame c = c.framed-frame.ensures.within (2 ^ 60) c.requires.around

pub returns-clause-value : goal.returns-clause-value
returns-clause-value c =
    same_answer c.placed_by.result _ _
    (placed_is c.args.styles.now c.args.number c.args.node.now c.args.around.now c.style_in.result c.framed-frame.result
    c.attributes_of.result (across_in c.extent_of-h.result.0) c.extent_of-h.result.1 c.style_in.ensures
    c.framed-frame.ensures.value
    c.attributes_of.ensures c.extent_of-h.ensures.across c.extent_of-h.ensures.height)
    c.placed_by.ensures.value
