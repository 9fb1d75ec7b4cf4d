use Rattle.cpu_effects.specs.Effects.{bit_branched}
use Rattle.cpu_effects.proofs.effects.bit_branched.Goals as goal

pub returns : goal.returns
unfolding bit_branched
returns c = rw (
  ← c.fetch.ensures,
  ← c.relative-place.ensures,
  ← c.with_pc.ensures,
  ← c.branched.ensures,
)
