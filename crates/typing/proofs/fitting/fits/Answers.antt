-- `fitting::fits` meets its contract.
use Rattle.records.specs.Views.{rec_of}
use Rattle.records.proofs.Views.{accepted}
use Rattle.typing.proofs.fitting.fits.Goals as goal

pub fits_at-requires : goal.fits_at-requires
fits_at-requires c = accepted c.args.r

pub returns : goal.returns
unfolding rec_of
returns c = c.fits_at.ensures
