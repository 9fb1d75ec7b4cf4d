use native.Mathlib.Omega.{arith}
use Rattle.bits.proofs.Cond.{one_where_le}
use Rattle.cpu_effects.specs.Effects.{completed}
use Rattle.cpu_effects.proofs.effects.completed.Goals as goal

pub overflow_add-o : goal.overflow_add-o
overflow_add-o c = omega (
  arith,
  c.one_where.ensures,
  one_where_le c.args.o.crossed,
)

pub returns : goal.returns
unfolding completed
returns c = rw (← c.one_where.ensures, ← c.read_only.ensures)
