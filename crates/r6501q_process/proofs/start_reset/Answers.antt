use mathlib.Core.Path.{refl}
use Rattle.r6501q_cpu.proofs.Answered.{reset_answered}
use Rattle.r6501q_process.proofs.start_reset.Goals as goal

pub returns : goal.returns
returns c = rw (
  c.next_state.ensures,
  c.reset_entry-worked.ensures,
  c.registers_of.ensures,
  reset_answered,
) refl
