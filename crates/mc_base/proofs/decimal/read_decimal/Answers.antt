use Rattle.mc_base.proofs.DecimalForms.{found, none}
use Rattle.mc_base.proofs.decimal.read_decimal.Goals as goal

pub returns-clause-found : goal.returns-clause-found
returns-clause-found c = found c.args.text.now c.decimal_at.result c.decimal_at.ensures

pub returns-clause-none : goal.returns-clause-none
returns-clause-none c = none c.args.text.now c.decimal_at.result c.decimal_at.ensures
