use Rattle.range_laws.proofs.TrueBooks.{book-stays-true}
use Rattle.range_laws.proofs.book_stays_true.Goals as goal

pub returns : goal.returns
returns c = book-stays-true
