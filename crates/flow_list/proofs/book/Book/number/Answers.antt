use Rattle.std.proofs.Common.{length, refl, sym, ◌∙◌, ap}
use Rattle.std.specs.Prelude.{unwrap_or}
use Rattle.std.specs.Map.{values_of}
use Rattle.flow_list.proofs.BookEntries.{numbered-by-place}
use Rattle.flow_list.proofs.book.Book.number.Goals as goal

pub returns-in-Some : goal.returns-in-Some
returns-in-Some c =
    ap (λ o. unwrap_or o (length (values_of c.self.inside.sizes.entries))) (sym c.in-Some.is ∙ c.get_index_of.ensures.index)
    ∙ rw c.copy.ensures (numbered-by-place c.self.inside.sizes.entries c.self.invariant (c.args.row, c.args.from.now)
    ∙ rw c.self.view_is refl)

pub returns : goal.returns
returns c =
    c.count.ensures ∙ ap length (sym c.self.view_is)
    ∙ ap (λ o. unwrap_or o (length (values_of c.self.inside.sizes.entries))) (sym c.in-None.is ∙ c.get_index_of.ensures.index)
    ∙ rw c.copy.ensures (numbered-by-place c.self.inside.sizes.entries c.self.invariant (c.args.row, c.args.from.now)
    ∙ rw c.self.view_is refl)
