use mathlib.Core.Path.{refl}
use native.Mathlib.Omega.{arith}
use Rattle.record_text.proofs.Laws.{count_on, count_last, count_ten}
use Rattle.record_text.proofs.digit_count.Goals as goal

pub loop-rest-init : goal.loop-rest-init
loop-rest-init c = (refl, omega arith)

pub overflow_add-count : goal.overflow_add-count
overflow_add-count c = omega (arith, count_ten c.args.n)

pub loop-rest-smaller : goal.loop-rest-smaller
loop-rest-smaller c = omega arith

pub loop-rest-preserved : goal.loop-rest-preserved
loop-rest-preserved c = (
  omega (arith, count_on c.loop-rest.rest c.loop-rest-test.true c.loop-rest.invariant.1),
  omega arith,
)

pub returns : goal.returns
returns c = omega (arith, count_last c.loop-rest.rest c.loop-rest-test.false)
