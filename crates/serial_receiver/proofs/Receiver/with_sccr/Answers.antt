use Rattle.serial_receiver.specs.Receiver.{receiver_with_sccr}
use Rattle.serial_receiver.proofs.Receiver.with_sccr.Goals as goal

pub returns-then-keeps_receiver : goal.returns-then-keeps_receiver
unfolding receiver_with_sccr
returns-then-keeps_receiver c = rw (← c.keeps_receiver.ensures, c.if-keeps_receiver.true)

pub returns : goal.returns
unfolding receiver_with_sccr
returns c = rw (← c.keeps_receiver.ensures, ← c.idle_receiver.ensures, c.if-keeps_receiver.false)
