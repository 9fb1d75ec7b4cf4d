use mathlib.Core.Path.{refl}
use Rattle.memory.proofs.is_register.Goals as goal

pub returns : goal.returns
returns c = refl
