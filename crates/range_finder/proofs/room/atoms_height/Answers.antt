use Rattle.std.proofs.Common.{◌∙◌, ap, arith}
use Rattle.std.proofs.lemmas.List.Sums.{sum_by-drop_more}
use Rattle.flow_data.specs.Flows.{atom_height, flow_of, no_item}
use Rattle.range_finder.proofs.Shares.{atoms-small}
use Rattle.range_finder.proofs.room.atoms_height.Goals as goal

pub overflow_add-sum : goal.overflow_add-sum
overflow_add-sum g c =
    let d = c.args.flows.now in
    let f = flow_of d c.row_at.result.now.flow in
    let total = atoms-small d c.flow_counts-counts.ensures.sound
    (c.flows_are_sound.ensures d c.flow_counts-counts.ensures.sound) c.args.row c.requires c.row_at.result.now
    c.row_at.ensures.same c.args.from.now in
    let n = c.item_count-count.ensures in
    let t = c.loop-k-test.true in
    let step = sum_by-drop_more atom_height f.items c.loop-k.k no_item (omega arith) in
    let i = c.loop-k.invariant.so_far in
    let h = c.height_of_atom-sum.ensures ∙ ap atom_height c.item_at.ensures.same in
    omega arith
