use Rattle.std.proofs.Common.{sym, ◌∙◌, ap}
use Rattle.std.specs.Prelude.{◌&&◌, nat_eq}
use Rattle.std.specs.Cmp.{unsigned_Decides}
use Rattle.std.specs.Cmp.Lexicographic.{pointwise, texts_ties}
use Rattle.std.specs.Ordering.{is_eq}
use Rattle.flow_list.proofs.place.PlacePartialEq.eq.Goals as goal

pub returns-then-self-other : goal.returns-then-self-other
returns-then-self-other c =
    let same_row = (unsigned_Decides c.args.self.now.row c.args.other.now.row).1 c.if-self-other.true in
    c.is_eq.ensures ∙ ap is_eq c.cmp.ensures ∙ sym (texts_ties c.args.self.now.from c.args.other.now.from)
    ∙ ap (λ b. b && pointwise nat_eq c.args.self.now.from c.args.other.now.from) (sym same_row)
