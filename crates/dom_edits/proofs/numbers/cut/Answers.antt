use Rattle.std.proofs.Common.{◌≡◌, ◌-◌, length, arith}
use Rattle.dom_edits.proofs.Lists.{left_of}
use Rattle.dom_edits.proofs.numbers.cut.Goals as goal

pub returns : goal.returns
returns c =
    let is : c.len.result - c.args.end ≡ length c.args.nodes.now.items - c.args.end = omega (arith, c.len.ensures) in
    rw (c.rotate_left-2.ensures.items, c.truncate.ensures.items, c.rotate_left.ensures.items)
    (left_of c.args.nodes.now.items c.args.start c.args.end _ c.requires.order c.requires.inside is)
