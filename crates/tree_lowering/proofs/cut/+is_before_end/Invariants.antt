use Rattle.tree_lowering.proofs.cut.+is_before_end.Given as goal

abbrev pub decreases-is_before_end : goal.decreases-is_before_end
decreases-is_before_end l = l.deep
