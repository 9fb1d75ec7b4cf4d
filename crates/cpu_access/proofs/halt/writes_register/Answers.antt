use Rattle.std.proofs.Common.{refl}
use Rattle.cpu_access.specs.Halt.{writes_register}
use Rattle.cpu_access.proofs.halt.writes_register.Goals as goal

pub returns : goal.returns
unfolding writes_register
returns c = rw (
  ← c.is_register.ensures,
  ← c.is_register-2.ensures,
  ← c.is_register-3.ensures,
) refl
