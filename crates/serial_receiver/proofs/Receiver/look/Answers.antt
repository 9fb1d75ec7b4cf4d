use Rattle.serial_receiver.specs.Receiver.{looked}
use borrow.Author.Tests.{eq-eqb, ne_eqb}
use Rattle.serial_receiver.proofs.Receiver.look.Goals as goal

pub returns-then-self-eq0 : goal.returns-then-self-eq0
unfolding looked
returns-then-self-eq0 c = rw (← c.detect_start.ensures, eq-eqb _ _ c.if-self-eq0.true)

pub returns : goal.returns
unfolding looked
returns c = rw (← c.take_look.ensures, ne_eqb _ _ c.if-self-eq0.false)
