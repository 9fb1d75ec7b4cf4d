use mathlib.Core.Path.{refl}
use Rattle.cpu_alu.specs.Arithmetic.{add_decimal, digit_sum}
use Rattle.cpu_alu.proofs.arithmetic.add_decimal.Goals as goal

pub returns : goal.returns
unfolding add_decimal digit_sum
returns c = rw (
  ← c.low_sum.ensures,
  ← c.overflow-v.ensures,
  ← c.one_where.ensures,
  ← c.corrected-total.ensures,
  ← c.bit8.ensures,
) refl
