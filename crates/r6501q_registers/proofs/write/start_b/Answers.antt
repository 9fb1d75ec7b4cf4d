use Rattle.r6501q_registers.specs.Write.{start_b}
use mathlib.Core.Path.{refl}
use borrow.Author.Tests.{eq-eqb, ne_eqb}
use Rattle.r6501q_registers.proofs.write.start_b.Goals as goal

pub returns-then-mode-eq1 : goal.returns-then-mode-eq1
unfolding start_b
returns-then-mode-eq1 c = rw (
  c.with_bit-latch.ensures,
  c.turn_to_c-turned.ensures,
  c.with_bit-flags.ensures,
  c.load-counter.ensures,
  c.with_upper.ensures,
  ← c.mode_b-mode.ensures,
  eq-eqb _ _ c.if-mode-eq1.true,
) refl

pub returns : goal.returns
unfolding start_b
returns c = rw (
  ← c.with_upper.ensures,
  ← c.load-counter.ensures,
  ← c.mode_b-mode.ensures,
  ← c.with_bit-flags.ensures,
  ne_eqb _ _ c.if-mode-eq1.false,
)
