use native.Mathlib.Omega.{arith}
use Rattle.bits.proofs.Cond.{one_where_le}
use Rattle.cpu_alu.specs.Arithmetic.{low_sum}
use borrow.Author.Tests.{le-leb, lt-leb}
use Rattle.cpu_alu.proofs.arithmetic.low_sum.Goals as goal

pub overflow_add-sum-2 : goal.overflow_add-sum-2
overflow_add-sum-2 c = omega (arith, c.one_where.ensures, one_where_le c.args.c)

pub overflow_add-result : goal.overflow_add-result
overflow_add-result c = omega (arith, c.one_where.ensures, one_where_le c.args.c)

pub returns-then-sum-ge10 : goal.returns-then-sum-ge10
unfolding low_sum
returns-then-sum-ge10 c = rw (← c.one_where.ensures, le-leb _ _ c.if-sum-ge10.true)

pub returns-else-sum-ge10 : goal.returns-else-sum-ge10
unfolding low_sum
returns-else-sum-ge10 c = rw (← c.one_where.ensures, lt-leb _ _ c.if-sum-ge10.false)
