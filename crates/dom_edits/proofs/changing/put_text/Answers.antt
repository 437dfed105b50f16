use Rattle.std.proofs.Common.{◌≡◌, ◌+◌, ap, arith}
use Rattle.std.specs.Prelude.{map}
use Rattle.dom_edits.specs.Nodes.{renumbered, moved}
use Rattle.dom_edits.proofs.Lists.{put_and_cut}
use Rattle.dom_edits.proofs.changing.put_text.Goals as goal

pub returns-clause-ok : goal.returns-clause-ok
returns-clause-ok c =
    let place : c.args.place.start + 1 + 1 ≡ c.args.place.start + 2 = omega arith in
    rw (c.renumber.ensures, c.cut.ensures, c.in_ok-insert.ensures.items, place)
    (ap (λ xs. map (renumbered (moved c.args.place.end (c.args.place.start + 2))) xs)
    (put_and_cut c.args.nodes.now.items c.args.place.start c.args.place.end c.args.text c.requires.order c.requires.inside))
