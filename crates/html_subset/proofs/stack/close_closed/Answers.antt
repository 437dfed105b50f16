use Rattle.std.proofs.Common.{◌≡◌, true, vec_len, sym, ap, ◌∙◌, arith}
use Rattle.std.specs.Prelude.{IsSome}
use Rattle.html_subset.specs.Stack.{stack_of, closed_on_top}
use Rattle.html_subset.proofs.StackLemmas.{popped, is_shorter, some_on_top}
use Rattle.html_subset.proofs.stack.close_closed.Goals as goal

pub loop-opens-preserved-in-loop-opens : goal.loop-opens-preserved-in-loop-opens
loop-opens-preserved-in-loop-opens c =
    let is : closed_on_top c.args.name.now (stack_of c.loop-opens.opens.items) ≡ true =
    ap (λ x. closed_on_top c.args.name.now (stack_of x)) (sym c.deref.ensures.value) ∙ sym c.is_closed_by.ensures
    ∙ c.loop-opens-test.true in
    let full = some_on_top c.args.name.now c.loop-opens.opens.items is in
    let some : IsSome c.pop.result = c.pop.ensures.variant.1 (omega arith) in
    popped c.args.name.now c.loop-opens.opens.items c.pop.new.self.items c.pop.result some c.pop.ensures.items is
    ∙ c.loop-opens.invariant

pub loop-opens-smaller : goal.loop-opens-smaller
loop-opens-smaller c =
    let is : closed_on_top c.args.name.now (stack_of c.loop-opens.opens.items) ≡ true =
    ap (λ x. closed_on_top c.args.name.now (stack_of x)) (sym c.deref.ensures.value) ∙ sym c.is_closed_by.ensures
    ∙ c.loop-opens-test.true in
    let full = some_on_top c.args.name.now c.loop-opens.opens.items is in
    let some : IsSome c.pop.result = c.pop.ensures.variant.1 (omega arith) in
    is_shorter (vec_len c.pop.new.self) (vec_len c.loop-opens.opens) c.pop.result some c.pop.ensures.len
