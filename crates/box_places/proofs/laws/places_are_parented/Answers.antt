use Rattle.std.proofs.Common.{None, ◌∙◌}
use Rattle.box_data.specs.Widths.{outermost, placed}
use Rattle.box_places.proofs.Parented.{parented, count_is, length_is}
use Rattle.box_places.proofs.laws.places_are_parented.Goals as goal

pub returns-clause-parented : goal.returns-clause-parented
returns-clause-parented c styles lines width tree = parented styles lines None 0 (outermost width) tree

pub returns-clause-count : goal.returns-clause-count
returns-clause-count c styles lines width tree =
    length_is (placed styles lines width tree) ∙ count_is styles lines None 0 (outermost width) tree
