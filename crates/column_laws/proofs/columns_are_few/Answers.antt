use Rattle.column_laws.proofs.Counting.{places-are-short, columns-are-few}
use Rattle.column_laws.proofs.columns_are_few.Goals as goal

pub returns : goal.returns
returns c = record { places = places-are-short; columns = columns-are-few }
