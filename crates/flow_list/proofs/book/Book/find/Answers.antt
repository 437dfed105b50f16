use Rattle.std.proofs.Common.{refl, ◌∙◌}
use Rattle.flow_list.proofs.BookEntries.{found-by-place}
use Rattle.flow_list.proofs.book.Book.find.Goals as goal

pub returns : goal.returns
returns c =
    c.get.ensures.value
    ∙ rw c.copy.ensures (found-by-place c.self.inside.sizes.entries c.self.invariant (c.args.row, c.args.from.now) ∙ rw c.self.view_is refl)
