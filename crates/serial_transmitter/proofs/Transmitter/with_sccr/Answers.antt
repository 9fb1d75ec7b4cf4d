use Rattle.serial_transmitter.specs.Transmitter.{transmitter_with_sccr}
use Rattle.serial_transmitter.proofs.Transmitter.with_sccr.Goals as goal

pub returns-then-keeps_transmitter : goal.returns-then-keeps_transmitter
unfolding transmitter_with_sccr
returns-then-keeps_transmitter c = rw (← c.keeps_transmitter.ensures, c.if-keeps_transmitter.true)

pub returns : goal.returns
unfolding transmitter_with_sccr
returns c = rw (← c.keeps_transmitter.ensures, ← c.idle_transmitter.ensures, c.if-keeps_transmitter.false)
