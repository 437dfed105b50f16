-- the numbers so far, and those to come
use Rattle.std.proofs.Common.{◌≡◌, length}
use Rattle.result_laws.specs.Words.{◌>>=◌, numbers_of}
use Rattle.result_reader.specs.Words.{behind}
use Rattle.result_reader.proofs.Shapes.{onto_sizes}
use Rattle.result_reader.proofs.line.numbers.Given as goal

abbrev pub invariant-loop-front : goal.invariant-loop-front
invariant-loop-front l = numbers_of (behind 32 l.initial.rest) ≡ (numbers_of (behind 32 l.rest) >>= onto_sizes l.sizes)

abbrev pub decreases-loop-front : goal.decreases-loop-front
decreases-loop-front l = length l.rest
