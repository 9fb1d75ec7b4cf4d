use Rattle.serial_transmitter.specs.Transmitter.{ticked}
use Rattle.serial_transmitter.proofs.Transmitter.advance_phase.Goals as goal

pub returns-then-ends_bit : goal.returns-then-ends_bit
unfolding ticked
returns-then-ends_bit c = rw (
  ← c.next_phase-phase.ensures,
  ← c.ends_bit.ensures,
  ← c.saturating_sub.ensures,
  c.if-ends_bit.true,
)

pub returns : goal.returns
unfolding ticked
returns c = rw (← c.next_phase-phase.ensures, ← c.ends_bit.ensures, c.if-ends_bit.false)
