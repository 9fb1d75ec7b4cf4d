use Rattle.r6501q_state.specs.Inputs.{with_input}
use mathlib.Core.Path.{refl}
use borrow.Author.Tests.{lt-ltb, le-ltb, eq-eqb, ne_eqb}
use Rattle.r6501q_state.proofs.state.Levels.input.Goals as goal

pub returns-then-pin-lt32 : goal.returns-then-pin-lt32
unfolding with_input
returns-then-pin-lt32 c = rw (← c.with_bit32.ensures, lt-ltb _ _ c.if-pin-lt32.true)

pub returns-then-pin-eq32 : goal.returns-then-pin-eq32
unfolding with_input
returns-then-pin-eq32 c = rw (eq-eqb _ _ c.if-pin-eq32.true, le-ltb _ _ c.if-pin-lt32.false) refl

pub returns : goal.returns
unfolding with_input
returns c = rw (ne_eqb _ _ c.if-pin-eq32.false, le-ltb _ _ c.if-pin-lt32.false)
