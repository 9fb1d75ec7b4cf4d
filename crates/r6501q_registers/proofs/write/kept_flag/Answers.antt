use Rattle.r6501q_registers.specs.Write.{kept_flag}
use Rattle.r6501q_registers.proofs.write.kept_flag.Goals as goal

pub returns-then-bit8 : goal.returns-then-bit8
unfolding kept_flag
returns-then-bit8 c = rw (← c.bit8.ensures, c.if-bit8.true)

pub returns-else-bit8 : goal.returns-else-bit8
unfolding kept_flag
returns-else-bit8 c = rw (← c.bit8.ensures, ← c.with_bit.ensures, c.if-bit8.false)
