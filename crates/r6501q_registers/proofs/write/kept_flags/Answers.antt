use mathlib.Core.Path.{refl}
use Rattle.r6501q_registers.specs.Write.{kept_flags}
use Rattle.r6501q_registers.proofs.write.kept_flags.Goals as goal

pub returns : goal.returns
unfolding kept_flags
returns c = rw (
  c.kept_flag-3.ensures,
  c.kept_flag-2.ensures,
  c.kept_flag-lower.ensures,
  c.kept_flag.ensures,
) refl
