use Rattle.std.proofs.Common.{rules}
use Rattle.mc_base.specs.declared.level.Level.TheVariants.{Forced, L2}
use Rattle.break_rules.proofs.Table.{table_of, only_of}
use Rattle.break_rules.proofs.rules.level.Goals as goal

pub returns-then-forces_break-clause-table : goal.returns-then-forces_break-clause-table
returns-then-forces_break-clause-table c = table_of c.args.seam.now Forced (search rules)

pub returns-then-forces_break-clause-only : goal.returns-then-forces_break-clause-only
returns-then-forces_break-clause-only c = only_of c.args.seam.now Forced (search rules)

pub returns-then-avoids-clause-table : goal.returns-then-avoids-clause-table
returns-then-avoids-clause-table c = table_of c.args.seam.now L2 (search rules)

pub returns-then-avoids-clause-only : goal.returns-then-avoids-clause-only
returns-then-avoids-clause-only c = only_of c.args.seam.now L2 (search rules)
