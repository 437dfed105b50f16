use Rattle.std.proofs.Common.{◌≡◌, ◌-◌}
use Rattle.flow_data.specs.Flows.{flow_of}
use Rattle.flow_list.specs.Fragments.{stack_laid}
use Rattle.flow_list.specs.Stacks.{stack_strip}
use Rattle.column_places.specs.Placing.{HasMargin, rows_of, strip_of, with_more}
use Rattle.frag_pool.specs.Growing.{Grows}
use Rattle.container_layout.specs.Placed.{AllHaveColumns, laid_in, places_in}
use Rattle.container_layout.proofs.walk.place_stack.Given as goal

abbrev pub invariant-loop-k : goal.invariant-loop-k
invariant-loop-k l =
    let f = flow_of l.flows l.stack.flow in
    record {
      places : with_more l.at (stack_laid l.flows l.stack.bound f l.k (l.count - l.k)) ≡ places_in l.flows l.stack
          (laid_in l.flows l.stack);
      strip : strip_of l.at ≡ stack_strip l.flows l.stack.bound f l.k;
      margin : HasMargin l.at;
      made : AllHaveColumns l.flows l.pool (rows_of l.at);
      grown : Grows l.fn.pool l.pool;
    }
