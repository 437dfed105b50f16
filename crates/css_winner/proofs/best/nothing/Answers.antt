use Rattle.std.proofs.Common.{◌≡◌, None, replicate, arith, ap, ◌∙◌}
use Rattle.css_winner.proofs.BestLemmas.{nothing_best}
use Rattle.css_winner.proofs.best.nothing.Goals as goal

pub returns : goal.returns
returns c = nothing_best c.loop-place.best.items (let n : c.loop-place._place ≡ 60 = omega arith in c.loop-place.invariant
    ∙ ap (λ k. replicate k None) n)
