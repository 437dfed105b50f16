use Rattle.std.proofs.Common.{◌≡◌, true, false, sym, ap, ◌∙◌, arith}
use Rattle.html_grammar.specs.Names.{omits}
use Rattle.html_subset.specs.Stack.{stack_of}
use Rattle.html_subset.proofs.StackLemmas.{stack_push, all_omit_top, not_all_omit, all_omit_none}
use Rattle.html_subset.proofs.stack.all_may_end.Goals as goal

pub returns-then-not-omits : goal.returns-then-not-omits
returns-then-not-omits c =
    let top = ap stack_of c.in-Some.ensures.items ∙ stack_push c.pop.new.self.items c.in-Some.open in
    let full : omits c.in-Some.open.name ≡ false = cc in
    sym (not_all_omit c.loop-open.opens.items c.pop.new.self.items c.in-Some.open top full) ∙ c.loop-open.invariant

pub loop-open-preserved : goal.loop-open-preserved
loop-open-preserved c =
    let top = ap stack_of c.in-Some.ensures.items ∙ stack_push c.pop.new.self.items c.in-Some.open in
    let may : omits c.in-Some.open.name ≡ true = cc in
    all_omit_top c.loop-open.opens.items c.pop.new.self.items c.in-Some.open top may ∙ c.loop-open.invariant

pub returns : goal.returns
returns c = sym (all_omit_none c.loop-open.opens.items (omega (arith, c.in_default.ensures.cases.0))) ∙ c.loop-open.invariant
