use Rattle.std.proofs.Common.{◌≡◌, ◌∷◌, []}
use Rattle.std.specs.declared.cmp.Ordering.TheVariants.{Less}
use Rattle.mc_base.specs.Places.{place_order}
use Rattle.all_writer.proofs.Places.{nothing-before}
use Rattle.all_writer.proofs.words.put_token.Goals as goal

pub returns-in-Less : goal.returns-in-Less
returns-in-Less c =
    let less = c.in-Less.ensures in
    let start = c.start.ensures in
    let e : place_order c.args.token.now (0 ∷ []) ≡ Less = cc (less, start) in
    nothing-before c.args.out.now c.args.token.now e
