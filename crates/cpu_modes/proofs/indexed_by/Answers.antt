use Rattle.std.proofs.Common.{refl}
use Rattle.cpu_modes.specs.Modes.{indexed_by}
use Rattle.cpu_modes.proofs.indexed_by.Goals as goal

pub returns : goal.returns
unfolding indexed_by
returns c = rw (c.crossing.ensures, c.wrapping_add_u16.ensures.value) refl
