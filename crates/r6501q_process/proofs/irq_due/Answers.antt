use mathlib.Core.Path.{refl}
use Rattle.r6501q_cpu.specs.Processor.{irq_due}
use Rattle.r6501q_process.proofs.irq_due.Goals as goal

pub returns : goal.returns
unfolding irq_due
returns c = rw (c.pending.ensures, c.bit8.ensures) refl
