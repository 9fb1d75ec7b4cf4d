use Rattle.cpu_access.specs.Stack.{push_address}
use Rattle.cpu_access.proofs.stack.push_address.Goals as goal

pub returns : goal.returns
unfolding push_address
returns c = rw (← c.no_write-none.ensures, ← c.push_high-upper.ensures, ← c.push_low-lower.ensures)
