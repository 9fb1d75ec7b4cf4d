use Rattle.serial_receiver.specs.Receiver.{receive_rise}
use borrow.Author.Tests.{eq-eqb, ne_eqb}
use Rattle.serial_receiver.proofs.Receiver.rise.Goals as goal

pub returns-then-next-eq0 : goal.returns-then-next-eq0
unfolding receive_rise
returns-then-next-eq0 c = rw (
  ← c.shift_at_rise-next.ensures,
  ← c.end_byte.ensures,
  eq-eqb _ _ c.if-next-eq0.true,
)

pub returns : goal.returns
unfolding receive_rise
returns c = rw (← c.shift_at_rise-next.ensures, ne_eqb _ _ c.if-next-eq0.false)
