use mathlib.Core.Path.{refl}
use Rattle.r6501q_host.specs.Host.{flags_fit}
use Rattle.r6501q_host.proofs.flags_fit.Goals as goal

pub returns : goal.returns
unfolding flags_fit
returns c = rw c.waiting_fits-waiting.ensures refl
