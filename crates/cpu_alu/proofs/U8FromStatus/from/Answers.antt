use native.Mathlib.Omega.{arith}
use Rattle.bits.proofs.Cond.{one_where_le}
use Rattle.cpu_alu.specs.Status.{packed}
use Rattle.cpu_alu.proofs.U8FromStatus.from.Goals as goal

pub overflow_mul-result : goal.overflow_mul-result
overflow_mul-result c = omega (arith, c.one_where.ensures, one_where_le c.args.status.n)

pub overflow_mul-result-2 : goal.overflow_mul-result-2
overflow_mul-result-2 c = omega (
  arith,
  c.one_where.ensures,
  one_where_le c.args.status.n,
  c.one_where-2.ensures,
  one_where_le c.args.status.v,
)

pub overflow_add-result : goal.overflow_add-result
overflow_add-result c = omega (
  arith,
  c.one_where.ensures,
  one_where_le c.args.status.n,
  c.one_where-2.ensures,
  one_where_le c.args.status.v,
)

pub overflow_mul-result-3 : goal.overflow_mul-result-3
overflow_mul-result-3 c = omega (
  arith,
  c.one_where.ensures,
  one_where_le c.args.status.n,
  c.one_where-2.ensures,
  one_where_le c.args.status.v,
  c.one_where-3.ensures,
  one_where_le c.args.status.d,
)

pub overflow_add-result-2 : goal.overflow_add-result-2
overflow_add-result-2 c = omega (
  arith,
  c.one_where.ensures,
  one_where_le c.args.status.n,
  c.one_where-2.ensures,
  one_where_le c.args.status.v,
  c.one_where-3.ensures,
  one_where_le c.args.status.d,
)

pub overflow_mul-result-4 : goal.overflow_mul-result-4
overflow_mul-result-4 c = omega (
  arith,
  c.one_where.ensures,
  one_where_le c.args.status.n,
  c.one_where-2.ensures,
  one_where_le c.args.status.v,
  c.one_where-3.ensures,
  one_where_le c.args.status.d,
  c.one_where-4.ensures,
  one_where_le c.args.status.i,
)

pub overflow_add-result-3 : goal.overflow_add-result-3
overflow_add-result-3 c = omega (
  arith,
  c.one_where.ensures,
  one_where_le c.args.status.n,
  c.one_where-2.ensures,
  one_where_le c.args.status.v,
  c.one_where-3.ensures,
  one_where_le c.args.status.d,
  c.one_where-4.ensures,
  one_where_le c.args.status.i,
)

pub overflow_mul-result-5 : goal.overflow_mul-result-5
overflow_mul-result-5 c = omega (
  arith,
  c.one_where.ensures,
  one_where_le c.args.status.n,
  c.one_where-2.ensures,
  one_where_le c.args.status.v,
  c.one_where-3.ensures,
  one_where_le c.args.status.d,
  c.one_where-4.ensures,
  one_where_le c.args.status.i,
  c.one_where-5.ensures,
  one_where_le c.args.status.z,
)

pub overflow_add-result-4 : goal.overflow_add-result-4
overflow_add-result-4 c = omega (
  arith,
  c.one_where.ensures,
  one_where_le c.args.status.n,
  c.one_where-2.ensures,
  one_where_le c.args.status.v,
  c.one_where-3.ensures,
  one_where_le c.args.status.d,
  c.one_where-4.ensures,
  one_where_le c.args.status.i,
  c.one_where-5.ensures,
  one_where_le c.args.status.z,
)

pub overflow_add-result-5 : goal.overflow_add-result-5
overflow_add-result-5 c = omega (
  arith,
  c.one_where.ensures,
  one_where_le c.args.status.n,
  c.one_where-2.ensures,
  one_where_le c.args.status.v,
  c.one_where-3.ensures,
  one_where_le c.args.status.d,
  c.one_where-4.ensures,
  one_where_le c.args.status.i,
  c.one_where-5.ensures,
  one_where_le c.args.status.z,
  c.one_where-6.ensures,
  one_where_le c.args.status.c,
)

pub returns : goal.returns
unfolding packed
returns c = rw (
  ← c.one_where.ensures,
  ← c.one_where-2.ensures,
  ← c.one_where-3.ensures,
  ← c.one_where-4.ensures,
  ← c.one_where-5.ensures,
  ← c.one_where-6.ensures,
)
