use Rattle.std.proofs.Common.{◌≡◌, ◌<◌, false, arith, sym, ◌∙◌}
use Rattle.std.proofs.lemmas.Bool.{lt-leb}
use Rattle.line_breaker.specs.Arrays.{first, is_whole, follows}
use Rattle.line_breaker.proofs.breaking.line_end.Goals as goal
use Rattle.line_breaker.proofs.breaking.line_end.Goals.{else-best-from-via-then-best-from+else-follows}
use Rattle.line_breaker.proofs.breaking.line_end.Goals.{else-best-from-via-else-best-from}

pub returns : goal.returns
returns c =
    let places = c.args.places.now in
    let from = c.args.from in
    let best = c.last_fitting-best.result in
    let too_wide : is_whole places from c.args.end c.args.width ≡ false =
    lt-leb _ _ (omega (arith, c.saturating_sub.ensures, c.edge.ensures, c.if-saturating_sub-width.false)) in
    let nothing : from < best → follows places from best ≡ false =
    elim c.else-best-from.branch [
      | else-best-from-via-then-best-from+else-follows w ↦ λ lt. sym w.follows.ensures ∙ w.if-follows.false
      | else-best-from-via-else-best-from w ↦ λ lt. absurd (omega (arith, w.if-best-from.false, lt))
    ] in
    first best too_wide c.last_fitting-best.ensures nothing c.first_counting.ensures
