use Rattle.r6501q_state.specs.State.{well_formed}
use mathlib.Core.Path.{refl}
use Rattle.r6501q_state.proofs.state.well_formed.Goals as goal

pub returns : goal.returns
unfolding well_formed
returns c = rw c.is_some-waits.ensures refl
