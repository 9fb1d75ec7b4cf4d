use Rattle.r6501q_registers.specs.Write.{entering}
use mathlib.Core.Path.{refl}
use Rattle.r6501q_registers.proofs.write.entering_mode.Goals as goal

pub returns : goal.returns
unfolding entering
returns c = rw (c.set_where-latch.ensures, c.mode_a-after.ensures, c.mode_a-before.ensures)
    refl
