use Rattle.std.proofs.Common.{◌≡◌, ◌++◌, length}
use Rattle.std.specs.Prelude.{fold}
use Rattle.std.specs.Vec.Iter.{into_iter_items, into_iter_len}
use Rattle.box_content.specs.Cutting.{cut_of, step, at_start}
use Rattle.box_content.proofs.cutting.cut.Given as goal

abbrev pub invariant-loop-mark : goal.invariant-loop-mark
invariant-loop-mark l = record {
  left : l.yielded ++ into_iter_items l.mark-iterator ≡ into_iter_items l.initial.mark-iterator;
  len : into_iter_len l.mark-iterator ≡ length (into_iter_items l.mark-iterator);
  cut : cut_of l.cutting ≡ fold (step l.places) (at_start l.place l.x) l.yielded;
}
