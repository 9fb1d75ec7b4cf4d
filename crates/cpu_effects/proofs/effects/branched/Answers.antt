use mathlib.Core.Path.{refl}
use native.Mathlib.Omega.{arith}
use Rattle.bits.proofs.Cond.{one_where_le}
use Rattle.cpu_effects.specs.Effects.{branched}
use Rattle.cpu_effects.proofs.effects.branched.Goals as goal

pub overflow_add-length-then-taken : goal.overflow_add-length-then-taken
overflow_add-length-then-taken c = omega (
  arith,
  c.one_where.ensures,
  one_where_le c.args.o.crossed,
)

pub returns-then-taken : goal.returns-then-taken
unfolding branched
returns-then-taken c = rw (
  c.read_only.ensures,
  c.with_pc.ensures,
  c.one_where.ensures,
  c.if-taken.true,
) refl

pub returns : goal.returns
unfolding branched
returns c = rw (c.read_only-2.ensures, c.if-taken.false) refl
