use mathlib.Core.Path.{refl}
use Rattle.r6501q_host.specs.Host.{host_waiting}
use Rattle.r6501q_host.proofs.HostWaitingFromOptionWrite.from.Goals as goal

pub returns-in-None : goal.returns-in-None
unfolding host_waiting
returns-in-None c = rw c.in-None.is refl

pub returns-in-Some : goal.returns-in-Some
unfolding host_waiting
returns-in-Some c = rw c.in-Some.is refl
