use Rattle.r6501q_cpu.specs.Asking.{answer_of}
use mathlib.Core.Path.{refl}
use Rattle.r6501q_cpu.proofs.answer.Goals as goal

pub returns : goal.returns
unfolding answer_of
returns c = rw (c.after_read.ensures, c.value.ensures, c.registers_after-after.ensures) refl
