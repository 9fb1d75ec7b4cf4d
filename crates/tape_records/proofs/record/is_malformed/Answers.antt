use Rattle.tape_records.proofs.RecordLaws.{count_most, address_most}
use Rattle.tape_records.specs.Records.{malformed}
use native.Mathlib.Omega.{arith}
use Rattle.tape_records.proofs.record.is_malformed.Goals as goal

pub overflow_mul-n : goal.overflow_mul-n
overflow_mul-n c = omega (arith, c.count-n.ensures, count_most c.args.text.now)

pub overflow_add-n : goal.overflow_add-n
overflow_add-n c = omega (arith, c.count-n.ensures, count_most c.args.text.now)

pub overflow_add-n-2 : goal.overflow_add-n-2
overflow_add-n-2 c = omega (arith, c.count-n.ensures, count_most c.args.text.now)

pub overflow_add-result : goal.overflow_add-result
overflow_add-result c = omega (
  arith,
  c.count-n.ensures,
  count_most c.args.text.now,
  c.address-a.ensures,
  address_most c.args.text.now,
)

pub returns : goal.returns
unfolding malformed
returns c = rw (c.are_digits.ensures, c.address-a.ensures, c.count-n.ensures)
