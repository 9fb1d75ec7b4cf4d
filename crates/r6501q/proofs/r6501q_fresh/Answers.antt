use Rattle.r6501q_host.specs.Host.{host_state}
use Rattle.r6501q.proofs.r6501q_fresh.Goals as goal

pub returns : goal.returns
unfolding host_state
returns c = rw (← c.fresh_state.ensures, ← c.into.ensures)
