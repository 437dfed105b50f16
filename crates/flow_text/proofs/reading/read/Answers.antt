use Rattle.flow_text.proofs.AnswerLaws.{found, only, first, told, refused_for}
use Rattle.flow_text.proofs.reading.read.Goals as goal

pub returns-clause-found : goal.returns-clause-found
returns-clause-found c = found c.args.text.now c.answer.result c.answer.ensures

pub returns-clause-only : goal.returns-clause-only
returns-clause-only c = only c.args.text.now c.answer.result c.answer.ensures

pub returns-clause-first : goal.returns-clause-first
returns-clause-first c = first c.args.text.now c.answer.result c.answer.ensures

pub returns-clause-refused : goal.returns-clause-refused
returns-clause-refused c = refused_for c.args.text.now c.answer.result c.answer.ensures

pub returns-clause-told : goal.returns-clause-told
returns-clause-told c = told c.args.text.now c.answer.result c.answer.ensures
