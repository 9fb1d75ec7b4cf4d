use mathlib.Core.Path.{refl}
use Rattle.r6501q_cpu.proofs.cpu_of.Goals as goal

pub returns : goal.returns
returns c = rw c.from.ensures refl
