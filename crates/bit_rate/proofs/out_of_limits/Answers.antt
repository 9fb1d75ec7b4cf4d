use mathlib.Core.Path.{refl}
use Rattle.bit_rate.specs.BitRate.{out_of_limits}
use Rattle.bit_rate.proofs.out_of_limits.Goals as goal

pub returns : goal.returns
unfolding out_of_limits
returns c = refl
