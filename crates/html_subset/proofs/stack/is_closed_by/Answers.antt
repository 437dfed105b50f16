use Rattle.std.proofs.Common.{refl, ap, ◌∙◌, arith, length}
use Rattle.html_grammar.specs.Names.{closes}
use Rattle.html_subset.proofs.StackLemmas.{stack_top, stack_none}
use Rattle.html_subset.proofs.stack.is_closed_by.Goals as goal

pub returns-then-count-eq0 : goal.returns-then-count-eq0
returns-then-count-eq0 c = rw (stack_none c.args.opens.now c.if-count-eq0.true) refl

pub returns : goal.returns
returns c = rw (stack_top c.args.opens.now (length c.args.opens.now) c.index-opens-count.result refl (omega arith))
    (c.closes.ensures ∙ ap (closes c.args.name.now) c.as_slice.ensures)
