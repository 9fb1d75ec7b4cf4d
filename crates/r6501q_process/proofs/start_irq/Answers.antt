use mathlib.Core.Path.{refl}
use Rattle.r6501q_cpu.proofs.Answered.{irq_answered}
use Rattle.r6501q_process.proofs.start_irq.Goals as goal

pub returns : goal.returns
returns c = rw (
  c.next_state.ensures,
  c.interrupt_entry-worked.ensures,
  c.registers_of.ensures,
  irq_answered,
) refl
