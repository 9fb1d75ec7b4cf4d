use Rattle.bits.specs.Bits.{set_where}
use Rattle.bits.proofs.set_where.Goals as goal

pub returns-then-on : goal.returns-then-on
unfolding set_where
returns-then-on c = rw (← c.with_bit.ensures, c.if-on.true)

pub returns-else-on : goal.returns-else-on
unfolding set_where
returns-else-on c = rw c.if-on.false
