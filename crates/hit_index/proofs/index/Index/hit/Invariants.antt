-- what was found, and the bands to come
use Rattle.std.proofs.Common.{◌≡◌, drop}
use Rattle.hit_index.specs.Bands.{best, later, leaves_in}
use Rattle.hit_index.proofs.index.Index.hit.Given as goal

abbrev pub invariant-loop-band : goal.invariant-loop-band
invariant-loop-band l =
    later l.found (best l.x l.y (leaves_in (drop l.band-index l.band-items))) ≡ best l.x l.y (leaves_in l.band-items)
