use mathlib.Core.Path.{refl}
use Rattle.r6501q_cpu.proofs.Answered.{nmi_answered}
use Rattle.r6501q_process.proofs.start_nmi.Goals as goal

pub returns : goal.returns
returns c = rw (
  c.next_state.ensures,
  c.interrupt_entry-worked.ensures,
  c.registers_of.ensures,
  nmi_answered,
) refl
