use Rattle.std.proofs.Common.{ap}
use Rattle.flow_list.proofs.BookEntries.{entered}
use Rattle.flow_list.proofs.book.Book.enter.Goals as goal

pub invariant_of-self-2 : goal.invariant_of-self-2
invariant_of-self-2 c =
    (entered c.self.inside.sizes (record { row = c.args.entry.row; from = c.copy.result }) c.args.entry c.self.invariant
    (ap (λ q. record { row = c.args.entry.row; from = q }) c.copy.ensures) (rw c.self.view_is c.requires) _
    c.in_default.ensures.entries).0

pub returns-clause-ok : goal.returns-clause-ok
returns-clause-ok c =
    rw (← c.self.view_is) (entered c.self.inside.sizes (record { row = c.args.entry.row; from = c.copy.result }) c.args.entry
    c.self.invariant (ap (λ q. record { row = c.args.entry.row; from = q }) c.copy.ensures) (rw c.self.view_is c.requires) _
    c.in_default.ensures.entries).1
