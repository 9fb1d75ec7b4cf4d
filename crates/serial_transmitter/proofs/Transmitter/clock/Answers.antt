use Rattle.serial_transmitter.specs.Transmitter.{transmitter_clock}
use Rattle.serial_transmitter.proofs.Transmitter.clock.Goals as goal

pub returns-then-moves : goal.returns-then-moves
unfolding transmitter_clock
returns-then-moves c = rw (← c.transmitter_on.ensures, ← c.tick.ensures, c.if-moves.true)

pub returns : goal.returns
unfolding transmitter_clock
returns c = rw (← c.transmitter_on.ensures, c.if-moves.false)
