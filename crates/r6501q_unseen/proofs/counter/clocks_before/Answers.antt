use Prim.Native.Nat.{◌+◌}
use native.Mathlib.Nat.{mul-le-mul}
use native.Mathlib.Omega.{arith}
use Rattle.r6501q_unseen.proofs.counter.clocks_before.Goals as goal

pub overflow_mul-result : goal.overflow_mul-result
overflow_mul-result c = omega (
  arith,
  mul-le-mul {n₁ = c.args.underflows} {m₁ = c.args.c.latch + 1} {n₂ = 32767}
      {m₂ = 65536} (omega arith) (omega arith),
)

pub overflow_add-result : goal.overflow_add-result
overflow_add-result c = omega (
  arith,
  mul-le-mul {n₁ = c.args.underflows} {m₁ = c.args.c.latch + 1} {n₂ = 32767}
      {m₂ = 65536} (omega arith) (omega arith),
)
