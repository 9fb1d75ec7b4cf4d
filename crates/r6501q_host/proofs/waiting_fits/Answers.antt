use Rattle.r6501q_host.specs.Host.{waiting_fits}
use mathlib.Core.Path.{refl}
use Rattle.r6501q_host.proofs.waiting_fits.Goals as goal

pub returns : goal.returns
unfolding waiting_fits
returns c = refl
