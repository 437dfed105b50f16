use Rattle.html_subset.proofs.Answered.{answer_found, answer_one, answer_only, answer_refused}
use Rattle.html_subset.proofs.Formed.{answer_formed}
use Rattle.html_subset.proofs.reading.parse.Goals as goal

pub returns-clause-found : goal.returns-clause-found
returns-clause-found c = answer_found c.dom_of.result c.args.text.now c.dom_of.ensures

pub returns-clause-only : goal.returns-clause-only
returns-clause-only c = answer_only c.dom_of.result c.args.text.now c.dom_of.ensures

pub returns-clause-refused : goal.returns-clause-refused
returns-clause-refused c = answer_refused c.dom_of.result c.args.text.now c.dom_of.ensures

pub returns-clause-formed : goal.returns-clause-formed
returns-clause-formed c = answer_formed c.dom_of.result c.args.text.now c.requires
    (answer_found c.dom_of.result c.args.text.now c.dom_of.ensures)

pub returns-clause-one : goal.returns-clause-one
returns-clause-one c = answer_one c.dom_of.result c.args.text.now (answer_found c.dom_of.result c.args.text.now c.dom_of.ensures)
