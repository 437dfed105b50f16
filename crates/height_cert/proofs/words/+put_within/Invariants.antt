use Rattle.std.proofs.Common.{length}
use Rattle.height_cert.specs.Words.{numbers_of}
use Rattle.height_cert.proofs.words.+put_within.Given as goal

abbrev pub decreases-put_within : goal.decreases-put_within
decreases-put_within l = length (numbers_of l.rest)
