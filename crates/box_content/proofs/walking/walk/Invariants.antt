use Rattle.std.proofs.Common.{◌≡◌, [], take}
use Rattle.std.specs.Prelude.{fold}
use Rattle.box_content.specs.Walking.{walk_of, walked}
use Rattle.box_content.proofs.walking.walk.Given as goal

abbrev pub invariant-loop-place : goal.invariant-loop-place
invariant-loop-place l =
    walk_of l.so_far.items l.stack.items ≡ fold (walked l.places) (record { so_far = []; still_open = [] })
    (take l.place-index l.places)
