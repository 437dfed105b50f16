use Rattle.column_laws.proofs.Following.{fits-exactly}
use Rattle.column_laws.proofs.fits_exactly.Goals as goal

pub returns : goal.returns
returns c = fits-exactly
