use Rattle.std.proofs.Common.{◌≡◌, ◌∙◌, refl, sym, subst, List, ◌++◌, OnOk}
use Rattle.flow_data.specs.Flows.{stack_of}
use Rattle.flow_list.specs.Certificate.{StackRow}
use Rattle.frag_pool.proofs.Growth.{same-trial-refl}
use Rattle.inner_rows.proofs.Calls.{book-refl}
use Rattle.container_layout.specs.Found.{HasFound}
use Rattle.container_layout.proofs.Tables.{all_of, stack-rows}
use Rattle.container_layout.proofs.find.find_in.Goals as goal

pub find_alike-requires-clause-stack : goal.find_alike-requires-clause-stack
find_alike-requires-clause-stack g c = record {
  number = c.args.number;
  known = c.requires.number;
  is =
      c.stack_at-stack.ensures.same;
}

pub find_alike-requires-clause-alike : goal.find_alike-requires-clause-alike
find_alike-requires-clause-alike g c = sym c.is_alike-alike.ensures ∙ c.if-alike.true

pub returns-then-alike-clause-found : goal.returns-then-alike-clause-found
returns-then-alike-clause-found g c = λ rows more split has.
    let d = c.args.flows.now in
    let e = stack-rows d c.args.number c.stack_at-stack.result.now c.stack_at-stack.ensures.same in
    let P : List StackRow → Type 0 = λ xs. all_of d ≡ (rows ++ xs) ++ more in
    let Q : List StackRow → Type 0 = λ xs. HasFound d (rows ++ xs) c.find_alike.new.table.items in
    subst Q e (c.find_alike.ensures.found rows more (subst P (sym e) split) has)

pub returns-then-alike-clause-book : goal.returns-then-alike-clause-book
returns-then-alike-clause-book g c = book-refl c.args.flows.now c.args.book.now c.requires.book

pub returns-then-alike-clause-pool : goal.returns-then-alike-clause-pool
returns-then-alike-clause-pool g c = same-trial-refl c.args.pool.now

pub returns-else-alike-clause-found : goal.returns-else-alike-clause-found
returns-else-alike-clause-found g c = λ rows more split has.
    let d = c.args.flows.now in
    let e = stack-rows d c.args.number (stack_of d c.args.number) refl in
    let P : List StackRow → Type 0 = λ xs. all_of d ≡ (rows ++ xs) ++ more in
    let Q : List StackRow → Type 0 = λ xs. OnOk c.find_left.result (HasFound d (rows ++ xs) c.find_left.new.table.items) in
    subst Q e (c.find_left.ensures.found rows more (subst P (sym e) split) has)
