use Rattle.std.proofs.Common.{◌∙◌, sym, ap, subst, arith, List, length, length-append, [], ◌∷◌, ℕ}
use Rattle.flow_list.specs.declared.laid.LaidStack.{LaidStack}
use Rattle.frag_pool.proofs.Growth.{grows-same-trial, same-trial-refl, same-trial-trans}
use Rattle.container_layout.specs.Laid.{AreLaidStacks, IsLaidStack}
use Rattle.container_layout.proofs.Laying.{no-stacks, stack-added}
use Rattle.container_layout.proofs.Standing.{standing-grows}
use Rattle.container_layout.proofs.Tables.{all_of}
use Rattle.container_layout.proofs.stack.lay_stacks.Goals as goal

pub loop-number-init : goal.loop-number-init
loop-number-init c = record {
  stacks = rw c.new-stacks.ensures (no-stacks c.args.flows.now c.args.pool.now);
  count = ap length c.new-stacks.ensures;
  pool = same-trial-refl c.args.pool.now;
}

pub lay_stack-requires-clause-table : goal.lay_stack-requires-clause-table
lay_stack-requires-clause-table c =
    standing-grows c.args.flows.now c.args.pool.now c.loop-number.pool
    (grows-same-trial c.args.pool.now c.loop-number.pool c.loop-number.invariant.pool) (all_of c.args.flows.now)
    c.args.table.now c.requires.table

pub loop-number-preserved : goal.loop-number-preserved
loop-number-preserved c =
    let d = c.args.flows.now in
    let P : ℕ → Type 0 = λ n. IsLaidStack d c.lay_stack.new.pool n c.in_ok-laid.laid in
    let Q : List LaidStack → Type 0 = λ xs. AreLaidStacks d c.lay_stack.new.pool xs in
    record {
      stacks = subst Q (sym c.in_ok-push.ensures.ok) (stack-added d c.loop-number.pool c.lay_stack.new.pool
          c.in_ok-laid.ensures.pool c.loop-number.stacks c.in_ok-laid.laid c.loop-number.invariant.stacks
          (subst P (sym c.loop-number.invariant.count) c.in_ok-laid.ensures.laid));
      count = let n = c.loop-number.invariant.count in ap length c.in_ok-push.ensures.ok
          ∙ omega (arith, length-append c.loop-number.stacks (c.in_ok-laid.laid ∷ []));
      pool = same-trial-trans _ _ _ c.loop-number.invariant.pool c.in_ok-laid.ensures.pool;
    }
