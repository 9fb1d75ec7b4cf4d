use mathlib.Core.Path.{refl}
use Rattle.cpu_effects.specs.Effects.{break_taken}
use Rattle.cpu_effects.proofs.effects.break_taken.Goals as goal

pub returns : goal.returns
unfolding break_taken
returns c = rw (
  c.interrupted-worked.ensures,
  c.pushed.ensures,
  c.with_pc-skipped.ensures,
  c.next_address.ensures,
) refl
