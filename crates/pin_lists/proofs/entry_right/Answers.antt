use mathlib.Core.Path.{refl}
use Rattle.pin_lists.specs.PinLists.{entry_right}
use Rattle.pin_lists.proofs.entry_right.Goals as goal

pub returns : goal.returns
unfolding entry_right
returns c = rw c.is_code.ensures refl
