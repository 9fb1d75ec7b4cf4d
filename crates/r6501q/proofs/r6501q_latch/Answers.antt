use mathlib.Core.Path.{refl}
use Rattle.r6501q.proofs.r6501q_latch.Goals as goal

pub returns : goal.returns
returns c = rw (c.into.ensures, c.latch.ensures) refl
