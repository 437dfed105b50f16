use Rattle.html_grammar.proofs.Refusals as refusals
use Rattle.html_grammar.proofs.laws.refusals_have_reasons.Goals as goal

pub returns : goal.returns
returns c = refusals.dom_refused
