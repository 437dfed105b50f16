use Rattle.std.proofs.Common.{◌∙◌, ap, subst, List, sym, ◌++◌, [], Option}
use Rattle.std.proofs.lemmas.List.{append-nil}
use Rattle.flow_list.specs.Certificate.{StackRow, book_behind}
use Rattle.flow_list.specs.Entries.{uses_in}
use Rattle.flow_list.specs.declared.laid.LaidRow.{LaidRow}
use Rattle.frag_pool.proofs.Growth.{same-trial-refl}
use Rattle.inner_rows.proofs.Calls.{book-refl}
use Rattle.container_layout.specs.Found.{row_found}
use Rattle.container_layout.specs.Laid.{AreLaidAfter}
use Rattle.container_layout.specs.declared.find.Found.{Found}
use Rattle.container_layout.proofs.Laying.{row-after, row-uses}
use Rattle.container_layout.proofs.lay.lay_number.Goals as goal

pub returns-in_default-clause-rows : goal.returns-in_default-clause-rows
returns-in_default-clause-rows g c = λ before is are.
    let P : List StackRow → Type 0 = λ rs. AreLaidAfter c.args.flows.now c.args.pool.now [] rs c.args.rows.now in
    subst P (sym (append-nil before) ∙ ap (λ (o : Option Found). before ++ row_found c.args.number o) (sym c.in_default.is)) are

pub returns-in_default-clause-same : goal.returns-in_default-clause-same
returns-in_default-clause-same g c = ap (λ (o : Option Found). row_found c.args.number o) (sym c.in_default.is)

pub returns-in_default-clause-uses : goal.returns-in_default-clause-uses
returns-in_default-clause-uses g c =
    ap (λ (o : Option Found). book_behind c.args.flows.now (uses_in c.args.book.now) (row_found c.args.number o))
    (sym c.in_default.is)

pub returns-in_default-clause-book : goal.returns-in_default-clause-book
returns-in_default-clause-book g c = book-refl c.args.flows.now c.args.book.now c.requires.book

pub returns-in_default-clause-pool : goal.returns-in_default-clause-pool
returns-in_default-clause-pool g c = same-trial-refl c.args.pool.now

pub returns-clause-rows : goal.returns-clause-rows
returns-clause-rows g c = λ before is are.
    let P : List LaidRow → Option Found → Type 0 = λ outs o.
    AreLaidAfter c.args.flows.now c.lay_row.new.pool [] (before ++ row_found c.args.number o) outs in
    subst (λ outs. P outs c.args.found) (sym c.in_ok-push.ensures.ok) (subst (P _) (sym c.in-Some.is)
    (row-after c.args.flows.now c.args.pool.now c.lay_row.new.pool
    c.in_ok-laid.ensures.pool before c.args.rows.now (record { row = c.args.number; available = c.in-Some.found.available })
    c.in_ok-laid.laid (uses_in c.args.book.now) (uses_in c.lay_row.new.book)
    is are c.in_ok-laid.ensures.laid c.in_ok-laid.ensures.before c.in_ok-laid.ensures.uses))

pub returns-clause-same : goal.returns-clause-same
returns-clause-same g c = ap (λ (o : Option Found). row_found c.args.number o) (sym c.in-Some.is)

pub returns-clause-uses : goal.returns-clause-uses
returns-clause-uses g c =
    row-uses c.args.flows.now (record { row = c.args.number; available = c.in-Some.found.available }) (uses_in c.args.book.now)
    (uses_in c.lay_row.new.book) c.in_ok-laid.ensures.uses
    ∙ ap (λ (o : Option Found). book_behind c.args.flows.now (uses_in c.args.book.now) (row_found c.args.number o))
    (sym c.in-Some.is)

pub returns-clause-stands : goal.returns-clause-stands
returns-clause-stands g c = record { height = c.in_ok-laid.ensures.laid.height; frag = c.in_ok-laid.ensures.laid.frag }
