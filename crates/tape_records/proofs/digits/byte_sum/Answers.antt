use Rattle.tape_records.proofs.DigitLaws.{total_pair, total_short, total_most}
use mathlib.Core.Path.{◌∙◌}
use native.Mathlib.Omega.{arith}
use Rattle.tape_records.proofs.digits.byte_sum.Goals as goal

pub overflow_add-sum : goal.overflow_add-sum
overflow_add-sum c =
    let at = c.in-Some.ensures.steps.1 in
    let pair = total_pair c.in-Some.pair.now _ at.0 (at.1 ∙ c.loop-pair.invariant.0) in
    omega (arith, pair, c.byte.ensures, c.loop-pair.invariant.1, total_most c.args.digits.now, c.requires)

pub loop-pair-preserved : goal.loop-pair-preserved
loop-pair-preserved c =
    let step = c.in-Some.ensures.steps in
    let at = step.1 in
    let pair = total_pair c.in-Some.pair.now _ at.0 (at.1 ∙ c.loop-pair.invariant.0) in
    (step.0 ∙ c.loop-pair.invariant.0, omega (arith, pair, c.byte.ensures, c.loop-pair.invariant.1))

pub returns : goal.returns
returns c =
    let few = c.in-None.ensures.steps.1.0 in
    omega (arith, total_short _ (rw c.loop-pair.invariant.0 at few), c.loop-pair.invariant.1)
