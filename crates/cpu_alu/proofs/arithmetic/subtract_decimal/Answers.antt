use Prim.Native.Nat.{◌+◌, ◌*◌, ◌/◌}
use native.Mathlib.Omega.{arith}
use Rattle.cpu_alu.specs.Arithmetic.{decimal_difference, digit_difference}
use Rattle.cpu_alu.proofs.Integers.{sub_add}
use Rattle.cpu_alu.proofs.Decimal.{lowered_neg, lowered_pos}
use Rattle.cpu_alu.proofs.arithmetic.subtract_decimal.Goals as goal

pub returns-then-difference-lt256 : goal.returns-then-difference-lt256
unfolding decimal_difference digit_difference
returns-then-difference-lt256 c =
    let at = c.args in
    let low = c.low_difference.result in
    rw (← c.low_difference.ensures.1, sub_add low 16 (at.a / 16 * 16) (at.m / 16 * 16))
    (lowered_neg (low + at.a / 16 * 16) (16 + at.m / 16 * 16) _ (omega arith) (omega arith) c.if-difference-lt256.true)

pub returns-else-difference-lt256 : goal.returns-else-difference-lt256
unfolding decimal_difference digit_difference
returns-else-difference-lt256 c =
    let at = c.args in
    let low = c.low_difference.result in
    rw (← c.low_difference.ensures.1, sub_add low 16 (at.a / 16 * 16) (at.m / 16 * 16))
    (lowered_pos (low + at.a / 16 * 16) (16 + at.m / 16 * 16) _ (omega arith) c.if-difference-lt256.false)
