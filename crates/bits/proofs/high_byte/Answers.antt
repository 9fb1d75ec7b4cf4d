use mathlib.Core.Path.{refl}
use Rattle.bits.proofs.high_byte.Goals as goal

pub returns : goal.returns
returns c = refl
