use Rattle.css_syntax.proofs.DigitsRead.{as-read}
use Rattle.css_syntax.proofs.tokens.read.Goals as goal

pub returns : goal.returns
returns c = as-read c.args.digits.now c.read_decimal.result c.read_decimal.ensures.found c.read_decimal.ensures.none
