use Rattle.std.proofs.Common.{◌≡◌, ◌↔◌, true, All, rules}
use Rattle.flow_data.proofs.StandsOnce.{each_once}
use Rattle.flow_data.proofs.belongs.each_stands_once.Goals as goal

pub returns : goal.returns
returns c =
    let says : (c.all.result ≡ true) ↔ All (λ x. x ≡ 1) c.loop-number.counts.items = search rules in
    each_once c.args.n c.loop-number.number-index c.loop-number.counts.items c.args.numbers.now c.loop-number.invariant.0
    c.loop-number-test.false c.loop-number.invariant.1 says
