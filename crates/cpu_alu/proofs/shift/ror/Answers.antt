use native.Mathlib.Omega.{arith}
use Rattle.bits.proofs.Cond.{one_where_le}
use Rattle.cpu_alu.specs.Shift.{ror_of}
use Rattle.cpu_alu.proofs.shift.ror.Goals as goal

pub overflow_mul-value : goal.overflow_mul-value
overflow_mul-value c = omega (arith, c.one_where.ensures, one_where_le c.args.status.c)

pub overflow_add-value : goal.overflow_add-value
overflow_add-value c = omega (arith, c.one_where.ensures, one_where_le c.args.status.c)

pub returns : goal.returns
unfolding ror_of
returns c = rw (c.resulting.ensures, c.with_c.ensures, c.bit8.ensures, c.one_where.ensures)
