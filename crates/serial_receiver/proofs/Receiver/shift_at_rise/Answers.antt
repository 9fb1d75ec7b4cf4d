use mathlib.Core.Path.{refl}
use Rattle.serial_receiver.specs.Receiver.{shifted_at_rise}
use borrow.Author.Tests.{eq-eqb, ne_eqb}
use Rattle.serial_receiver.proofs.Receiver.shift_at_rise.Goals as goal

pub returns-then-self-eq0 : goal.returns-then-self-eq0
unfolding shifted_at_rise
returns-then-self-eq0 c = rw (← c.with_level-register.ensures, eq-eqb _ _ c.if-self-eq0.true) refl

pub returns : goal.returns
unfolding shifted_at_rise
returns c = rw (← c.with_level-register.ensures, ne_eqb _ _ c.if-self-eq0.false)
