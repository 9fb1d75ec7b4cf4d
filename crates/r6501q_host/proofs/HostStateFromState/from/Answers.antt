use mathlib.Core.Path.{refl}
use Rattle.r6501q_host.specs.Host.{host_state}
use Rattle.r6501q_host.proofs.HostStateFromState.from.Goals as goal

pub returns : goal.returns
unfolding host_state
returns c = rw (c.into.ensures, c.into-2.ensures, c.into-3.ensures, c.into-4.ensures, c.into-5.ensures) refl
