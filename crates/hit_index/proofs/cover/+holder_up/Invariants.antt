use Rattle.hit_index.proofs.cover.+holder_up.Given as goal

abbrev pub decreases-holder_up : goal.decreases-holder_up
decreases-holder_up l = l.depth
