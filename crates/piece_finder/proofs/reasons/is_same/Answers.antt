use Rattle.std.proofs.Common.{sym, ◌∙◌, ap}
use Rattle.std.specs.Cmp.Lexicographic.{texts_ties}
use Rattle.std.specs.Ordering.{is_eq}
use Rattle.piece_finder.proofs.Telling.{tokens-same}
use Rattle.piece_finder.proofs.reasons.is_same.Goals as goal

pub returns : goal.returns
returns c = c.is_eq.ensures ∙ ap is_eq c.cmp.ensures ∙ sym (texts_ties c.args.one.now c.args.other.now)
    ∙ tokens-same c.args.one.now c.args.other.now
