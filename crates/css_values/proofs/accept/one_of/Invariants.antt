use Rattle.std.proofs.Common.{◌≡◌, drop}
use Rattle.css_values.specs.Values.{one_of}
use Rattle.css_values.proofs.accept.one_of.Given as goal

abbrev pub invariant-loop-form : goal.invariant-loop-form
invariant-loop-form l = one_of (drop l.form-index l.forms) l.token ≡ one_of l.forms l.token
