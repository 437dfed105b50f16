use Rattle.std.proofs.Common.{◌≡◌, ◌==◌, if◌then◌else◌, EachIndex, flat_map}
use Rattle.flow_data.specs.Soundness.{count_of, stacks_in}
use Rattle.flow_data.proofs.StandsOnce.{first-named, first-once}
use Rattle.flow_data.proofs.Verdicts.{ok_same}
use Rattle.flow_data.proofs.belongs.stacks_belong.Goals as goal

pub returns : goal.returns
returns c =
    let d = c.args.parts.now in
    let ns = flat_map stacks_in d.flows in
    let says = rw (c.len.ensures, c.deref.ensures.value, c.in_ok-numbers.ensures) at c.each_stands_once.ensures in
    ok_same (EachIndex d.stacks (λ s. count_of s ns ≡ (if s == 0 then 0 else 1))) c.each_stands_once.result says
    (λ once k lt. first-named k ns (once k lt)) (λ named k lt. first-once k ns (named k lt))
