use Rattle.std.proofs.Common.{rules}
use Rattle.std.proofs.lemmas.Slice.Eq.{bytes_eq-Decides}
use Rattle.css_values.specs.Words.{same}
use Rattle.css_values.proofs.text.is_same.Goals as goal

pub returns : goal.returns
unfolding same
returns c = search (rules, bytes_eq-Decides)
