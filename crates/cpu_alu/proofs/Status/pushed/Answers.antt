use mathlib.Core.Path.{refl}
use native.Mathlib.Omega.{arith}
use Rattle.bits.proofs.Cond.{one_where_le}
use Rattle.cpu_alu.proofs.Bounds.{packed_le}
use Rattle.cpu_alu.specs.Status.{pushed}
use Rattle.cpu_alu.proofs.Status.pushed.Goals as goal

pub overflow_add-result : goal.overflow_add-result
overflow_add-result c = omega (arith, c.from.ensures, packed_le c.args.self)

pub overflow_mul-result : goal.overflow_mul-result
overflow_mul-result c = omega (arith, c.one_where.ensures, one_where_le c.args.brk)

pub overflow_add-result-2 : goal.overflow_add-result-2
overflow_add-result-2 c = omega (
  arith,
  c.from.ensures,
  packed_le c.args.self,
  c.one_where.ensures,
  one_where_le c.args.brk,
)

pub returns : goal.returns
unfolding pushed
returns c = rw (c.one_where.ensures, c.from.ensures) refl
