use Rattle.tape_records.proofs.RecordLaws.{count_most}
use Rattle.tape_records.specs.Records.{sum_of}
use lib.ListN.{length, length-take}
use mathlib.Core.Path.{ap, refl}
use native.Mathlib.Omega.{arith}
use Rattle.tape_records.proofs.record.sum.Goals as goal

pub overflow_mul-count : goal.overflow_mul-count
overflow_mul-count c = omega (arith, c.count.ensures, count_most c.args.text.now)

pub overflow_add-count : goal.overflow_add-count
overflow_add-count c = omega (arith, c.count.ensures, count_most c.args.text.now)

pub byte_sum-requires : goal.byte_sum-requires
byte_sum-requires c = omega (
  arith,
  simp length-take at (ap length c.part.ensures),
  c.count.ensures,
  count_most c.args.text.now,
)

pub returns : goal.returns
unfolding sum_of
returns c = rw (c.byte_sum.ensures, c.part.ensures, c.count.ensures) refl
