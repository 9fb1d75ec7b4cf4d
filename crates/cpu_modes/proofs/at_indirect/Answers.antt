use Rattle.std.proofs.Common.{refl}
use Rattle.cpu_modes.proofs.at_indirect.Goals as goal

pub returns : goal.returns
returns c = rw (
  c.place_at.ensures,
  c.read_address-target.ensures,
  c.second_address-high.ensures,
)
    refl
