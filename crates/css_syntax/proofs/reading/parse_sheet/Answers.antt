use Rattle.css_syntax.proofs.SheetAnswered.{found, only, one, refused, told}
use Rattle.css_syntax.proofs.reading.parse_sheet.Goals as goal

pub returns-clause-found : goal.returns-clause-found
returns-clause-found c = found c.sheet_of.result c.args.text.now c.sheet_of.ensures

pub returns-clause-only : goal.returns-clause-only
returns-clause-only c = only c.sheet_of.result c.args.text.now c.sheet_of.ensures

pub returns-clause-one : goal.returns-clause-one
returns-clause-one c = one c.sheet_of.result c.args.text.now c.sheet_of.ensures

pub returns-clause-refused : goal.returns-clause-refused
returns-clause-refused c = refused c.sheet_of.result c.args.text.now c.sheet_of.ensures

pub returns-clause-told : goal.returns-clause-told
returns-clause-told c = told c.sheet_of.result c.args.text.now c.sheet_of.ensures
