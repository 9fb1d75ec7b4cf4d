use Rattle.cpu_modes.specs.Modes.{relative_to}
use Rattle.cpu_modes.proofs.relative.Goals as goal

pub returns : goal.returns
unfolding relative_to
returns c = rw (
  ← c.displacement.ensures,
  ← c.wrapping_add_u16-target.ensures.value,
  ← c.crossing.ensures,
)
