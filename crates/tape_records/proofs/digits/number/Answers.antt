use Rattle.tape_records.proofs.DigitLaws.{number_more, number_next, number_end}
use mathlib.Core.Path.{sym, ◌∙◌}
use native.Mathlib.Omega.{arith}
use Rattle.tape_records.proofs.digits.number.Goals as goal

pub overflow_mul-n : goal.overflow_mul-n
overflow_mul-n c =
    omega (arith, number_more c.args.digits.now c.loop-c.c-index c.loop-c.n c.requires c.loop-c-test.true c.loop-c.invariant)

pub overflow_add-n : goal.overflow_add-n
overflow_add-n c =
    let more = number_more c.args.digits.now c.loop-c.c-index c.loop-c.n c.requires c.loop-c-test.true c.loop-c.invariant in
    omega (arith, more, c.value.ensures)

pub loop-c-preserved : goal.loop-c-preserved
loop-c-preserved c =
    rw c.value.ensures (sym (number_next c.args.digits.now c.loop-c.c-index c.loop-c.n c.loop-c-test.true)
    ∙ c.loop-c.invariant)

pub returns : goal.returns
returns c =
    sym (number_end c.args.digits.now c.loop-c.c-index c.loop-c.n c.loop-c-test.false) ∙ c.loop-c.invariant
