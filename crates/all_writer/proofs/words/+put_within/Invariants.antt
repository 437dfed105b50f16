use Rattle.std.proofs.Common.{length}
use Rattle.all_writer.specs.Words.{numbers_of}
use Rattle.all_writer.proofs.words.+put_within.Given as goal

abbrev pub decreases-put_within : goal.decreases-put_within
decreases-put_within l = length (numbers_of l.rest)
