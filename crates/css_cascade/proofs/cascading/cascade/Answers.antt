use Rattle.std.proofs.Common.{sym, subst}
use Rattle.css_cascade.specs.Cascaded.{AreOwn}
use Rattle.css_cascade.proofs.AttributeLemmas.{all_own_are, cascaded_is}
use Rattle.css_cascade.proofs.cascading.cascade.Goals as goal

pub all_entries-requires-clause-own : goal.all_entries-requires-clause-own
all_entries-requires-clause-own c = subst (AreOwn c.args.dom.now) (sym c.as_slice-settings.ensures)
    (all_own_are c.args.dom.now c.in_ok-own.own c.in_ok-own.ensures.read)

pub returns-clause-styles : goal.returns-clause-styles
returns-clause-styles c = cascaded_is c.args.sheets.now c.args.dom.now c.in_ok-own.own c.in_ok-own.ensures.read
    c.as_slice-settings.result.now c.as_slice-settings.ensures c.in_ok-nodes.nodes c.in_ok-nodes.ensures c.seal.result
    c.seal.ensures
