use Rattle.cpu_access.specs.Bus.{fetch_address}
use Rattle.cpu_access.proofs.Bus.fetch_address.Goals as goal

pub returns : goal.returns
unfolding fetch_address
returns c = rw (
  ← c.fetch-lower.ensures,
  ← c.fetch-upper.ensures,
  ← c.word16.ensures,
)
