use Rattle.cpu_access.specs.Stack.{pull_address}
use Rattle.cpu_access.proofs.Bus.pull_address.Goals as goal

pub returns : goal.returns
unfolding pull_address
returns c = rw (
  ← c.pull-lower.ensures,
  ← c.pull-upper.ensures,
  ← c.word16.ensures,
)
