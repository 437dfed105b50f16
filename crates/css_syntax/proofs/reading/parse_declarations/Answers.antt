use Rattle.css_syntax.proofs.Answered.{found, only, one, refused, told}
use Rattle.css_syntax.proofs.reading.parse_declarations.Goals as goal

pub returns-clause-found : goal.returns-clause-found
returns-clause-found c = found c.declarations_in.result c.args.text.now c.declarations_in.ensures

pub returns-clause-only : goal.returns-clause-only
returns-clause-only c = only c.declarations_in.result c.args.text.now c.declarations_in.ensures

pub returns-clause-one : goal.returns-clause-one
returns-clause-one c = one c.declarations_in.result c.args.text.now c.declarations_in.ensures

pub returns-clause-refused : goal.returns-clause-refused
returns-clause-refused c = refused c.declarations_in.result c.args.text.now c.declarations_in.ensures

pub returns-clause-told : goal.returns-clause-told
returns-clause-told c = told c.declarations_in.result c.args.text.now c.declarations_in.ensures
