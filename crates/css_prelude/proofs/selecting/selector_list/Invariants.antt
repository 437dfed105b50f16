use Rattle.std.proofs.Common.{◌≡◌, ◌-◌}
use Rattle.css_tokens.specs.Facts.{behind_spaces}
use Rattle.css_prelude.specs.Selecting.{list_from, nothing_yet}
use Rattle.css_prelude.proofs.selecting.selector_list.Given as goal

abbrev pub invariant-loop : goal.invariant-loop
invariant-loop l = list_from (l.size - l.counter) l.size l.state l.rest
    ≡ list_from l.size l.size nothing_yet (behind_spaces l.prelude)
