use Rattle.r6501q_state.specs.Pins.{with_edges}
use mathlib.Core.Path.{refl}
use Rattle.r6501q_state.proofs.state.State.record_edges.Goals as goal

pub returns : goal.returns
unfolding with_edges
returns c = rw (← c.flag_edges-ifr.ensures) refl
