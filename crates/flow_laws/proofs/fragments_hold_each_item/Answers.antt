use Rattle.flow_laws.proofs.Holding.{fragments-hold}
use Rattle.flow_laws.proofs.HoldingStacks.{stack-holds}
use Rattle.flow_laws.proofs.fragments_hold_each_item.Goals as goal

pub returns : goal.returns
returns c = record { columns = fragments-hold; stacks = stack-holds }
