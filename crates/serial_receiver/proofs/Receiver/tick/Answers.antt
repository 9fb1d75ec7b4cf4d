use Rattle.serial_receiver.specs.Receiver.{receive_tick}
use mathlib.Core.Path.{refl}
use Rattle.serial_receiver.proofs.Receiver.tick.Goals as goal

pub returns-then-self : goal.returns-then-self
unfolding receive_tick
returns-then-self c = rw (← c.look.ensures, c.if-self.true)

pub returns : goal.returns
unfolding receive_tick
returns c = rw c.if-self.false refl
