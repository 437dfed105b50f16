use Rattle.column_laws.proofs.Depths.{depths-alike, rows-are-told}
use Rattle.column_laws.proofs.depths_are_alike.Goals as goal

pub returns : goal.returns
returns c = record { alike = depths-alike; told = rows-are-told }
