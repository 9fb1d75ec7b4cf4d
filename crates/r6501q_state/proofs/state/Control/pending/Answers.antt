use mathlib.Core.Path.{refl}
use Rattle.r6501q_state.proofs.state.Control.pending.Goals as goal

pub returns : goal.returns
returns c = rw c.flags.ensures refl
