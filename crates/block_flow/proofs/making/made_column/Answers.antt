use Rattle.std.proofs.Common.{◌≤◌, arith}
use Rattle.std.specs.Option.{option_map}
use Rattle.flow_data.specs.Flows.{flow_of}
use Rattle.flow_list.specs.Entries.{uses_in}
use Rattle.flow_list.specs.Looks.{looks}
use Rattle.flow_list.specs.Rows.{all_rows}
use Rattle.frag_pool.proofs.Growth.{grows-same-trial, grows-trans}
use Rattle.inner_rows.proofs.Calls.{book-trans}
use Rattle.column_maker.specs.Making.{cut_room, items_in}
use Rattle.block_flow.proofs.Endings.{ending}
use Rattle.block_flow.proofs.Items.{items-few}
use Rattle.block_flow.proofs.Standing.{same-book}
use Rattle.block_flow.proofs.making.made_column.Goals as goal

pub make_column-requires-clause-cut : goal.make_column-requires-clause-cut
make_column-requires-clause-cut g c =
    ending c.args.flows.now (flow_of c.args.flows.now c.args.flow) c.args.from.now c.args.height c.in_ok-decision.decision
    c.in_ok-decision.ensures.decided c.cut_of.new.pool c.in_ok-cut.cut c.in_ok-cut.ensures.cut

pub returns-clause-uses : goal.returns-clause-uses
returns-clause-uses g c =
    same-book c.args.flows.now (c.uses_enter.ensures c.args.flows.now) (flow_of c.args.flows.now c.args.flow) c.args.from.now
    c.requires.place c.args.height c.in_ok-decision.decision c.in_ok-decision.ensures.decided
    (option_map cut_room c.in_ok-cut.cut) (uses_in c.args.book.now) (uses_in c.decide.new.book) (uses_in c.cut_of.new.book)
    (uses_in c.make_column.new.book) c.in_ok-decision.ensures.uses c.in_ok-cut.ensures.uses c.in_ok-frag.ensures.uses

pub returns-in_err-frag-clause-read : goal.returns-in_err-frag-clause-read
returns-in_err-frag-clause-read g c =
    let d = c.args.flows.now in
    let few : items_in c.args.from.now c.in_ok-decision.decision.end
    ≤ looks (all_rows d) d (flow_of d c.args.flow) c.args.from.now c.args.height =
    rw c.in_ok-decision.ensures.decided.end
    (items-few d (flow_of d c.args.flow) c.args.from.now c.args.height c.requires.place) in
    let a = c.in_ok-decision.ensures.read in
    let b = c.in_ok-cut.ensures.read in
    let e = c.in_err-frag.ensures.reads in
    omega (arith, few, a, b, e)

pub returns-clause-read : goal.returns-clause-read
returns-clause-read g c =
    let d = c.args.flows.now in
    let few : items_in c.args.from.now c.in_ok-decision.decision.end
    ≤ looks (all_rows d) d (flow_of d c.args.flow) c.args.from.now c.args.height =
    rw c.in_ok-decision.ensures.decided.end
    (items-few d (flow_of d c.args.flow) c.args.from.now c.args.height c.requires.place) in
    let a = c.in_ok-decision.ensures.read in
    let b = c.in_ok-cut.ensures.read in
    let e = c.in_ok-frag.ensures.reads in
    omega (arith, few, a, b, e)

pub returns-in_err-decision-clause-grown : goal.returns-in_err-decision-clause-grown
returns-in_err-decision-clause-grown g c = grows-same-trial c.args.pool.now c.decide.new.pool c.in_err-decision.ensures.pool

pub returns-in_err-cut-clause-grown : goal.returns-in_err-cut-clause-grown
returns-in_err-cut-clause-grown g c =
    grows-trans c.args.pool.now c.decide.new.pool c.cut_of.new.pool
    (grows-same-trial c.args.pool.now c.decide.new.pool c.in_ok-decision.ensures.pool) c.in_err-cut.ensures.grown

pub returns-in_err-frag-clause-grown : goal.returns-in_err-frag-clause-grown
returns-in_err-frag-clause-grown g c =
    grows-trans c.args.pool.now c.decide.new.pool c.make_column.new.pool
    (grows-same-trial c.args.pool.now c.decide.new.pool c.in_ok-decision.ensures.pool)
    (grows-trans c.decide.new.pool c.cut_of.new.pool c.make_column.new.pool c.in_ok-cut.ensures.grown
    c.in_err-frag.ensures.grown)

pub returns-clause-grown : goal.returns-clause-grown
returns-clause-grown g c =
    grows-trans c.args.pool.now c.decide.new.pool c.make_column.new.pool
    (grows-same-trial c.args.pool.now c.decide.new.pool c.in_ok-decision.ensures.pool)
    (grows-trans c.decide.new.pool c.cut_of.new.pool c.make_column.new.pool c.in_ok-cut.ensures.grown c.in_ok-frag.ensures.grown)

pub returns-in_err-cut-clause-book : goal.returns-in_err-cut-clause-book
returns-in_err-cut-clause-book g c =
    book-trans c.args.flows.now c.args.book.now c.decide.new.book c.cut_of.new.book c.in_ok-decision.ensures.book
    c.in_err-cut.ensures.book

pub returns-in_err-frag-clause-book : goal.returns-in_err-frag-clause-book
returns-in_err-frag-clause-book g c =
    book-trans c.args.flows.now c.args.book.now c.decide.new.book c.make_column.new.book c.in_ok-decision.ensures.book
    (book-trans c.args.flows.now c.decide.new.book c.cut_of.new.book c.make_column.new.book c.in_ok-cut.ensures.book
    c.in_err-frag.ensures.book)

pub returns-clause-book : goal.returns-clause-book
returns-clause-book g c =
    book-trans c.args.flows.now c.args.book.now c.decide.new.book c.make_column.new.book c.in_ok-decision.ensures.book
    (book-trans c.args.flows.now c.decide.new.book c.cut_of.new.book c.make_column.new.book c.in_ok-cut.ensures.book
    c.in_ok-frag.ensures.book)
