use Rattle.r6501q_state.specs.Control.{mode_a}
use mathlib.Core.Path.{refl}
use Rattle.r6501q_state.proofs.state.Control.mode_a.Goals as goal

pub returns : goal.returns
unfolding mode_a
returns c = rw (c.in_force.ensures, c.holds_counter.ensures) refl
