use Rattle.cpu_access.specs.Bus.{read_address}
use Rattle.cpu_access.proofs.Bus.read_address.Goals as goal

pub returns : goal.returns
unfolding read_address
returns c = rw (
  ← c.read-lower.ensures,
  ← c.read-upper.ensures,
  ← c.word16.ensures,
)
