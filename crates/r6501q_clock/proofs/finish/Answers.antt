use mathlib.Core.Path.{refl}
use Rattle.r6501q_clock.specs.Clock.{finished}
use Rattle.r6501q_clock.proofs.finish.Goals as goal

pub returns-then-full : goal.returns-then-full
unfolding finished
returns-then-full c = rw (← c.is_some.ensures, c.if-full.true) refl

pub returns : goal.returns
unfolding finished
returns c = rw (← c.is_some.ensures, c.if-full.false) refl
