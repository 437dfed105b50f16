use Rattle.std.proofs.Common.{◌<◌, length, sym, arith}
use Rattle.result_reader.proofs.Parts.{place-too-long}
use Rattle.result_reader.proofs.number.+place.Goals as goal

pub returns-then-most-eq1 : goal.returns-then-most-eq1
returns-then-most-eq1 t c =
    let some : 0 < length c.part.result.1.now = omega (arith, c.in-Some.ensures.cases) in
    sym (place-too-long c.args.most c.in_ok-item.item c.args.word.now c.part.result.0.now c.part.result.1.now c.if-most-eq1.true
    c.part.ensures.parts (sym c.in_ok-item.ensures) some)
