use Rattle.std.proofs.Common.{refl}
use Rattle.cpu_access.proofs.stack.push.Goals as goal

pub returns : goal.returns
returns c = rw c.stack_address.ensures refl
