use Rattle.css_cascade.specs.Cascaded.{HasEntries}
use Rattle.css_cascade.proofs.cascading.all_entries.Given as goal

abbrev pub invariant-loop-number : goal.invariant-loop-number
invariant-loop-number l = HasEntries l.sheets l.dom l.number l.nodes
