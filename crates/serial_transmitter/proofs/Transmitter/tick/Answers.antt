use Rattle.serial_transmitter.specs.Transmitter.{send_tick}
use borrow.Author.Tests.{eq-eqb, ne_eqb}
use Rattle.serial_transmitter.proofs.Transmitter.tick.Goals as goal

pub returns-then-self-eq0 : goal.returns-then-self-eq0
unfolding send_tick
returns-then-self-eq0 c = rw (← c.idle_tick.ensures, eq-eqb _ _ c.if-self-eq0.true)

pub returns : goal.returns
unfolding send_tick
returns c = rw (← c.bit_tick.ensures, ne_eqb _ _ c.if-self-eq0.false)
