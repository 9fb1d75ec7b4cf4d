use mathlib.Core.Path.{refl}
use Rattle.r6501q_spans.proofs.begin_work.Goals as goal

pub returns : goal.returns
returns c = rw (← c.registers_of.ensures) refl
