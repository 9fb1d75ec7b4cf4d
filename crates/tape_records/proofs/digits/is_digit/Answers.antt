use Rattle.tape_records.specs.Digits.{is_digit}
use mathlib.Core.Path.{refl}
use Rattle.tape_records.proofs.digits.is_digit.Goals as goal

pub returns : goal.returns
unfolding is_digit
returns c = refl
