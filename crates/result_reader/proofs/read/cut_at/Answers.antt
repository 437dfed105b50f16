use Rattle.std.proofs.Common.{◌≡◌, ◌+◌, length, arith}
use Rattle.result_reader.proofs.Cuts.{line-there}
use Rattle.result_reader.proofs.read.cut_at.Goals as goal

pub returns-clause-here : goal.returns-clause-here
returns-clause-here c =
    let n = rw c.split_at.ensures.back at c.before-2.ensures.value in
    let front = rw c.split_at.ensures.back at c.split_at-2.ensures.front in
    let rest = rw c.split_at.ensures.back at c.split_at-2.ensures.back in
    let long = c.split_at-2.ensures.front_len in
    let next : c.args.at + length c.split_at-2.result.0.now + 1 ≡ c.args.at + c.before-2.result + 1 = omega arith in
    rw c.is_empty.ensures (line-there c.args.text.now c.split_at-2.result.0.now c.split_at-2.result.1.now c.args.at
    c.before-2.result _ c.requires n front rest next)
