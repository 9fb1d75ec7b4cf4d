use mathlib.Core.Path.{refl}
use Rattle.cpu_effects.specs.Effects.{modified}
use Rattle.cpu_effects.proofs.effects.modified.Goals as goal

pub returns-then-o : goal.returns-then-o
unfolding modified
returns-then-o c = rw (c.read_only.ensures, c.into_a.ensures, c.if-o.true) refl

pub returns : goal.returns
unfolding modified
returns c = rw (c.stored.ensures, c.with_status.ensures, c.if-o.false) refl
