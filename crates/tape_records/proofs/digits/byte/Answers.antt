use Rattle.tape_records.proofs.DigitLaws.{value_most}
use Rattle.tape_records.specs.Digits.{byte_of}
use native.Mathlib.Omega.{arith}
use Rattle.tape_records.proofs.digits.byte.Goals as goal

pub overflow_mul-result : goal.overflow_mul-result
overflow_mul-result c = omega (arith, c.value.ensures, value_most c.args.high)

pub overflow_add-result : goal.overflow_add-result
overflow_add-result c = omega (
  arith,
  c.value.ensures,
  value_most c.args.high,
  c.value-2.ensures,
  value_most c.args.low,
)

pub overflow_cast-result : goal.overflow_cast-result
overflow_cast-result c = omega (
  arith,
  c.value.ensures,
  value_most c.args.high,
  c.value-2.ensures,
  value_most c.args.low,
)

pub returns : goal.returns
unfolding byte_of
returns c = rw (c.value.ensures, c.value-2.ensures)
