use Rattle.std.proofs.Common.{refl}
use Rattle.cpu_access.specs.Halt.{is_written}
use Rattle.cpu_access.proofs.halt.is_written.Goals as goal

pub returns : goal.returns
unfolding is_written
returns c = refl
