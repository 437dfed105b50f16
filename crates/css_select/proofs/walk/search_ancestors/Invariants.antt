use Rattle.std.proofs.Common.{◌-◌}
use Rattle.css_data.specs.declared.selector.Join.TheVariants.{Descendant}
use Rattle.css_select.proofs.Searches.{IsSearching, end_of}
use Rattle.css_select.proofs.walk.search_ancestors.Given as goal

abbrev pub invariant-loop-next : goal.invariant-loop-next
invariant-loop-next l = IsSearching l.dom l.selector Descendant (l.place - 1) l.node l.next

abbrev pub decreases-loop-next : goal.decreases-loop-next
decreases-loop-next l = end_of l.next
