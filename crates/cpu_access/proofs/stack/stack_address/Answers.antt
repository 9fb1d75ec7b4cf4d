use Rattle.std.proofs.Common.{sym, mod-eq_of_lt, arith}
use Rattle.cpu_access.proofs.stack.stack_address.Goals as goal

pub returns : goal.returns
returns c = sym (mod-eq_of_lt (omega arith))
