use Rattle.serial_transmitter.specs.Transmitter.{idle_tick}
use Rattle.serial_transmitter.proofs.Transmitter.idle_tick.Goals as goal

pub returns-then-bit8 : goal.returns-then-bit8
unfolding idle_tick
returns-then-bit8 c = rw (← c.bit8.ensures, c.if-bit8.true)

pub returns : goal.returns
unfolding idle_tick
returns c = rw (← c.take.ensures, ← c.bit8.ensures, c.if-bit8.false)
