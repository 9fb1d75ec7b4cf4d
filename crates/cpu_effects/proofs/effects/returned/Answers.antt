use mathlib.Core.Path.{refl}
use Rattle.cpu_effects.specs.Effects.{returned}
use Rattle.cpu_effects.proofs.effects.returned.Goals as goal

pub returns : goal.returns
unfolding returned
returns c = rw (
  c.read_only.ensures,
  c.with_pc.ensures,
  c.with_sp.ensures,
  c.next_address-pc.ensures,
  c.pull_address-pulled.ensures,
) refl
