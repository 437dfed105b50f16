use Rattle.result_reader.proofs.Building.{held-closed}
use Rattle.result_reader.proofs.build.Building.finish.Goals as goal

pub close_entry-requires : goal.close_entry-requires
close_entry-requires c =
    let b = c.args.self in
    held-closed b.entry b.ranges c.in_ok-ranges.ranges b.range b.columns c.requires.ranges c.requires.range c.requires.columns
    c.in_ok-ranges.ensures
