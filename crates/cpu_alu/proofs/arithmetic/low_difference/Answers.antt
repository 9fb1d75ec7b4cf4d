use Prim.Native.Nat.{◌+◌, ◌%◌}
use mathlib.Core.Bool.{not}
use Rattle.bits.specs.Bits.{one_where}
use Rattle.cpu_alu.proofs.Decimal.{borrowed_neg, borrowed_pos}
use native.Mathlib.Omega.{arith}
use Rattle.bits.proofs.Cond.{one_where_le, one_where_not}
use Rattle.cpu_alu.proofs.arithmetic.low_difference.Goals as goal

pub overflow_add-difference-2 : goal.overflow_add-difference-2
overflow_add-difference-2 c = omega (arith, c.one_where.ensures, one_where_le c.args.c)

pub returns-then-difference-lt16 : goal.returns-then-difference-lt16
returns-then-difference-lt16 c =
    let at = c.args in
    let o = one_where_not at.c in (
      omega arith,
      borrowed_neg (at.a % 16) (at.m % 16 + one_where (not at.c)) _ (omega arith) (omega arith)
          c.if-difference-lt16.true,
    )

pub returns-else-difference-lt16 : goal.returns-else-difference-lt16
returns-else-difference-lt16 c =
    let at = c.args in
    let o = one_where_not at.c in (
      omega arith,
      borrowed_pos (at.a % 16) (at.m % 16 + one_where (not at.c)) _ (omega arith)
          c.if-difference-lt16.false,
    )
