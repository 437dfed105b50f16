use Rattle.std.proofs.Common.{sym, ◌∙◌}
use Rattle.box_maker.proofs.Walks.{blocks-here}
use Rattle.box_maker.proofs.boxes.has_blocks.Goals as goal

pub returns : goal.returns
returns c = λ parent forest s.
    let d = c.args.source.now in
    let w = c.next_block.ensures.boxes parent forest s in
    blocks-here d.nodes.now d.ends.now d.styles.now parent c.next_block.result c.args.end w.0 w.1 c.next_block.ensures.block
    ∙ sym w.3
