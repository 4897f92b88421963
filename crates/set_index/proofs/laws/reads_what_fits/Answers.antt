use Rattle.set_index.proofs.Fitting.{fits_over}
use Rattle.set_index.proofs.laws.reads_what_fits.Goals as goal

pub returns : goal.returns
returns c = fits_over
