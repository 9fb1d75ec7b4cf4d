use Rattle.std.proofs.Common.{refl}
use Rattle.cpu_access.specs.Halt.{ends_span}
use Rattle.cpu_access.proofs.halt.ends_span.Goals as goal

pub returns : goal.returns
unfolding ends_span
returns c = rw (c.writes_register-register.ensures, c.halts.ensures) refl
