use mathlib.Core.Path.{refl}
use native.Mathlib.Omega.{arith}
use native.Mathlib.Nat.{add-zero}
use borrow.Author.Tests.{eq-eqb, ne_eqb}
use Rattle.bits.proofs.Cond.{one_where_le}
use Rattle.r6501q_fast.specs.Instructions.{shared_by}
use Rattle.r6501q_fast.proofs.shared_by.Goals as goal

pub returns-then-gone-start : goal.returns-then-gone-start
unfolding shared_by
returns-then-gone-start c = rw (
  eq-eqb _ _ c.if-gone-start.true,
  c.one_where-first.ensures,
  c.on_tick.ensures,
  add-zero,
) refl

pub overflow_add-result : goal.overflow_add-result
overflow_add-result c = omega (
  arith,
  c.one_where.ensures,
  one_where_le c.on_tick-2.result,
  c.one_where-first.ensures,
  one_where_le c.on_tick.result,
)

pub returns : goal.returns
unfolding shared_by
returns c = rw (
  ne_eqb _ _ c.if-gone-start.false,
  c.one_where.ensures,
  c.on_tick-2.ensures,
  c.one_where-first.ensures,
  c.on_tick.ensures,
) refl
