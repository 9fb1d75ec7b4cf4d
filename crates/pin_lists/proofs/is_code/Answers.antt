use Rattle.pin_lists.specs.PinLists.{code_right}
use mathlib.Core.Path.{refl}
use Rattle.pin_lists.proofs.is_code.Goals as goal

pub returns : goal.returns
unfolding code_right
returns c = refl
