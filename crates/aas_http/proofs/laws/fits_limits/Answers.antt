use Rattle.aas_http.proofs.FirstLaws.{fits_limits}
use Rattle.aas_http.proofs.laws.fits_limits.Goals as goal

pub returns : goal.returns
returns c = fits_limits
