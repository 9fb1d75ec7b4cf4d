use mathlib.Core.Path.{refl}
use borrow.Author.Tests.{eq-eqb, ne_eqb}
use Rattle.tape.specs.Tapes.{ended_by}
use Rattle.tape.proofs.ended.Goals as goal

pub returns-then-address-n : goal.returns-then-address-n
unfolding ended_by
returns-then-address-n c = rw (← c.address.ensures, ne_eqb _ _ c.if-address-n.true) refl

pub returns : goal.returns
unfolding ended_by
returns c = rw (← c.address.ensures, eq-eqb _ _ c.if-address-n.false) refl
