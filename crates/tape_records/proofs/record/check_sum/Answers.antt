use Rattle.tape_records.proofs.RecordLaws.{count_most}
use Rattle.tape_records.specs.Records.{check_sum_of}
use lib.ListN.{length, length-take}
use mathlib.Core.Path.{ap}
use native.Mathlib.Omega.{arith}
use Rattle.tape_records.proofs.record.check_sum.Goals as goal

pub overflow_mul-count : goal.overflow_mul-count
overflow_mul-count c = omega (arith, c.count.ensures, count_most c.args.text.now)

pub overflow_add-count : goal.overflow_add-count
overflow_add-count c = omega (arith, c.count.ensures, count_most c.args.text.now)

pub number-requires : goal.number-requires
number-requires c = omega (arith, simp length-take at (ap length c.part.ensures))

pub returns : goal.returns
unfolding check_sum_of
returns c = rw (c.number.ensures, c.part.ensures, c.count.ensures)
