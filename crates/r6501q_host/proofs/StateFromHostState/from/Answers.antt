use mathlib.Core.Path.{refl}
use Rattle.r6501q_host.specs.Host.{state_from_host}
use Rattle.r6501q_host.proofs.StateFromHostState.from.Goals as goal

pub returns : goal.returns
unfolding state_from_host
returns c = rw (c.into.ensures, c.into-2.ensures, c.into-3.ensures, c.into-4.ensures, c.into-5.ensures) refl
