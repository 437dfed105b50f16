use Rattle.std.proofs.Common.{sym, ap, ◌∙◌, subst, arith}
use Rattle.std.specs.List.Sorted.{IsNonDecreasingBy}
use Rattle.hit_index.specs.Bands.{best, later}
use Rattle.hit_index.proofs.Best.{later-none}
use Rattle.hit_index.proofs.Made.{left, band-above, band-below, rest-right}
use Rattle.hit_index.proofs.band.hit_in.Goals.{then-y-band-via-then-y-band, then-y-band-via-else-y-band+then-band-y}
use Rattle.hit_index.proofs.band.hit_in.Goals as goal

pub returns-then-y-band : goal.returns-then-y-band
returns-then-y-band c =
    elim c.then-y-band.branch [
      | then-y-band-via-then-y-band w ↦ sym (band-below c.args.x c.args.y c.args.band.now c.requires w.if-y-band.true)
      | then-y-band-via-else-y-band+then-band-y w ↦
          sym (band-above c.args.x c.args.y c.args.band.now c.requires (omega (arith, c.ranges.y.fits)) w.if-band-y.true)
    ]

pub returns-then-x-leaf : goal.returns-then-x-leaf
returns-then-x-leaf c =
    let value = c.as_slice-leaf-items.ensures.value in
    let items = c.as_slice-leaf-items.result.now in
    let none = rest-right c.args.x c.args.y items c.loop-leaf.leaf-index _
    (subst (λ xs. IsNonDecreasingBy left xs) (sym value) c.requires.order) c.loop-leaf-test.true c.if-x-leaf.true in
    sym (later-none c.loop-leaf.found) ∙ ap (later c.loop-leaf.found) (sym none) ∙ c.loop-leaf.invariant
    ∙ ap (best c.args.x c.args.y) value
