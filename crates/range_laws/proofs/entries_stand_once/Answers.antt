use Rattle.range_laws.proofs.EntriesOnce.{entries-once}
use Rattle.range_laws.proofs.entries_stand_once.Goals as goal

pub returns : goal.returns
returns c = entries-once
