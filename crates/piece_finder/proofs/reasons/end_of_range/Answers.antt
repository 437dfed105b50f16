use Rattle.std.proofs.Common.{sym, ◌∙◌, arith}
use Rattle.piece_finder.proofs.Telling.{cut-end}
use Rattle.piece_finder.proofs.reasons.end_of_range.Goals as goal

pub returns-in-Some : goal.returns-in-Some
returns-in-Some c = λ bounds below is.
    let k = cut-end c.args.low c.in-Some.short c.args.height bounds below (sym c.in-Some.is ∙ is) in
    let m = c.min.ensures in
    let s = c.saturating_add.ensures in
    let fits = c.ranges.height.fits in
    omega arith
