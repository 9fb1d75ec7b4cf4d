use Rattle.r6501q_state.specs.Control.{mode_b}
use mathlib.Core.Path.{refl}
use Rattle.r6501q_state.proofs.state.Control.mode_b.Goals as goal

pub returns : goal.returns
unfolding mode_b
returns c = refl
