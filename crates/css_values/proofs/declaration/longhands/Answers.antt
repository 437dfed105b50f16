use Rattle.css_values.proofs.Settings.{no_value_more}
use Rattle.css_values.proofs.declaration.longhands.Goals as goal

pub returns-then-i-values : goal.returns-then-i-values
returns-then-i-values c = no_value_more c.loop-i.set c.args.properties.now c.args.values.now c.loop-i.i c.if-i-values.true
    c.loop-i.invariant
