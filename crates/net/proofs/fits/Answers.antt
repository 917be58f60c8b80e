use Rattle.net.proofs.Rooms.{fits}
use Rattle.net.proofs.fits.Goals as goal

pub returns : goal.returns
returns c = fits
