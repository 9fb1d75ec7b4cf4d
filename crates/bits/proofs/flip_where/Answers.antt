use Rattle.bits.specs.Bits.{flip_where}
use Rattle.bits.proofs.flip_where.Goals as goal

pub returns-then-on : goal.returns-then-on
unfolding flip_where
returns-then-on c = rw (← c.bit8.ensures, ← c.with_bit.ensures, c.if-on.true)

pub returns-else-on : goal.returns-else-on
unfolding flip_where
returns-else-on c = rw c.if-on.false
