use Rattle.box_data.specs.Limits.{column_counts}
use Rattle.doc_limits.proofs.Firsts.{IsFirstFrom}
use Rattle.doc_limits.proofs.lengths.first_wide.Given as goal

abbrev pub invariant-loop-p : goal.invariant-loop-p
invariant-loop-p l = IsFirstFrom 32 column_counts l.places l.p-index
