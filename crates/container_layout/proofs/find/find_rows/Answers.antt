use Rattle.std.proofs.Common.{◌≡◌, ◌≤◌, ◌∙◌, sym, subst, arith, List, ℕ, length}
use Rattle.frag_pool.proofs.Growth.{same-trial-refl, same-trial-trans}
use Rattle.flow_list.specs.declared.book.SizeEntry.{SizeEntry}
use Rattle.container_layout.specs.Found.{HasFound, rows_of_stacks}
use Rattle.container_layout.proofs.Numbers.{empty-true}
use Rattle.container_layout.proofs.Tables.{none-yet, none-yet-count, stack-goes}
use Rattle.container_layout.proofs.find.find_rows.Goals as goal

pub returns-in_err-table-clause-pool : goal.returns-in_err-table-clause-pool
returns-in_err-table-clause-pool g c = same-trial-refl c.args.pool.now

pub loop-number-init : goal.loop-number-init
loop-number-init g c =
    let d = c.args.flows.now in
    let P : List SizeEntry → Type 0 = λ b. g.I.InnerRows.is_true c.args.inner.now d b c.args.pool.now in
    record {
      found = none-yet d c.in_ok-table.table.items _ c.in_ok-table.ensures c.flow_counts-counts.ensures.rows;
      table = none-yet-count d c.in_ok-table.table.items _ c.in_ok-table.ensures c.flow_counts-counts.ensures.rows;
      depth = c.requires.depth;
      engine = subst P (sym c.new-book.ensures) c.requires.engine;
      book = rw c.new-book.ensures (empty-true d);
      pool = same-trial-refl c.args.pool.now;
    }

pub find_in-requires-clause-number : goal.find_in-requires-clause-number
find_in-requires-clause-number g c =
    let n = c.flow_counts-counts.ensures.stacks in let t = c.loop-number-test.true in omega arith

pub returns-in_err-find_in-clause-pool : goal.returns-in_err-find_in-clause-pool
returns-in_err-find_in-clause-pool g c = same-trial-trans _ _ _ c.loop-number.invariant.pool c.in_err-find_in.ensures.pool

pub loop-number-preserved : goal.loop-number-preserved
loop-number-preserved g c =
    let n = c.flow_counts-counts.ensures.stacks in
    let t = c.loop-number-test.true in
    let e = c.in_ok-find_in.ensures in
    let old = c.loop-number.invariant in
    record {
      found = stack-goes c.args.flows.now c.loop-number.number (omega arith) c.loop-number.table.items c.find_in.new.table.items
          old.found e.found;
      table = e.table ∙ old.table;
      depth = e.depth ∙ old.depth;
      engine = e.engine;
      book = e.book.is_true;
      pool = same-trial-trans _ _ _ old.pool e.pool;
    }

pub returns-clause-found : goal.returns-clause-found
returns-clause-found g c =
    let n = c.flow_counts-counts.ensures.stacks in
    let a : c.loop-number.number ≤ c.flow_counts-counts.result.stacks = c.loop-number.auto.number-end in
    let t = c.loop-number-test.false in
    let end : c.loop-number.number ≡ length c.args.flows.now.stacks = omega arith in
    let P : ℕ → Type 0 = λ n. HasFound c.args.flows.now (rows_of_stacks c.args.flows.now n) c.loop-number.table.items in
    subst P end c.loop-number.invariant.found
