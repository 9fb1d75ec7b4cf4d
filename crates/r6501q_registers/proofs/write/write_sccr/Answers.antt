use mathlib.Core.Path.{refl}
use Rattle.r6501q_registers.proofs.write.write_sccr.Goals as goal

pub returns : goal.returns
returns c = rw (c.zero_progress.ensures, c.entering_mode-entered.ensures) refl
