use Rattle.std.proofs.Common.{◌≡◌, true, false, sym, ap, ◌∙◌, arith}
use Rattle.html_grammar.specs.Names.{same, omits}
use Rattle.html_grammar.specs.Machine.{without}
use Rattle.html_subset.specs.Stack.{stack_of}
use Rattle.html_subset.proofs.StackLemmas.{stack_push, found_on_top, stopped_on_top, passed_on_top, at_bottom_gives}
use Rattle.html_subset.proofs.stack.close_up_to.Goals as goal

pub returns-then-same : goal.returns-then-same
returns-then-same c =
    let top = ap stack_of c.in-Some.ensures.items ∙ stack_push c.pop.new.self.items c.in-Some.open in
    let is : same c.args.name.now c.in-Some.open.name ≡ true = cc in
    sym c.loop-open.invariant ∙ found_on_top c.args.at c.args.name.now c.args.html c.loop-open.opens.items c.pop.new.self.items
    c.in-Some.open top is

pub returns-then-not-omits : goal.returns-then-not-omits
returns-then-not-omits c =
    let top = ap stack_of c.in-Some.ensures.items ∙ stack_push c.pop.new.self.items c.in-Some.open in
    let is : same c.args.name.now c.in-Some.open.name ≡ false = cc in
    let full : omits c.in-Some.open.name ≡ false = cc in
    sym c.loop-open.invariant ∙ stopped_on_top c.args.at c.args.name.now c.args.html c.loop-open.opens.items c.pop.new.self.items
    c.in-Some.open top is full

pub loop-open-preserved : goal.loop-open-preserved
loop-open-preserved c =
    let top = ap stack_of c.in-Some.ensures.items ∙ stack_push c.pop.new.self.items c.in-Some.open in
    let is : same c.args.name.now c.in-Some.open.name ≡ false = cc in
    let may : omits c.in-Some.open.name ≡ true = cc in
    passed_on_top c.args.at c.args.name.now c.args.html c.loop-open.opens.items c.pop.new.self.items c.in-Some.open top is may
    ∙ c.loop-open.invariant

pub returns : goal.returns
returns c = at_bottom_gives c.at_bottom.result c.args.at c.args.name.now c.args.html c.loop-open.opens.items c.pop.new.self.items
    (without c.args.at c.args.name.now c.args.html (stack_of c.args.opens.now.items))
    (omega (arith, c.in_default.ensures.cases.0)) (omega (arith, c.in_default.ensures.cases.1)) c.loop-open.invariant
    c.at_bottom.ensures
