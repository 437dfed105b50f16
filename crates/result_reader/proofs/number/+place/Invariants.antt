use Rattle.result_reader.proofs.number.+place.Given as goal

abbrev pub decreases-place : goal.decreases-place
decreases-place l = l.most
