use Rattle.std.proofs.Common.{◌≡◌, vec_len}
use Rattle.std.specs.Prelude.{reverse}
use Rattle.box_content.specs.Walking.{without}
use Rattle.box_content.proofs.walking.close_up_to.Given as goal

abbrev pub invariant-closing : goal.invariant-closing
invariant-closing l =
    without l.places l.parent l.so_far.items (reverse l.stack.items)
    ≡ without l.places l.parent l.fn.so_far.items (reverse l.fn.stack.items)

abbrev pub decreases-closing : goal.decreases-closing
decreases-closing l = vec_len l.stack
