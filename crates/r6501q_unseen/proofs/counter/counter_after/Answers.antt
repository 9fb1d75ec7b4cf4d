use Prim.Native.Nat.{◌+◌, ◌-◌}
use native.Mathlib.Nat.{mod-lt}
use native.Mathlib.Omega.{arith}
use Rattle.r6501q_unseen.specs.Ticks.{count_after}
use borrow.Author.Tests.{le-leb, lt-leb}
use Rattle.r6501q_unseen.proofs.counter.counter_after.Goals as goal

pub returns-then-not-counting : goal.returns-then-not-counting
unfolding count_after
returns-then-not-counting c = rw (c.if-not-counting.true)

pub returns-then-n-count : goal.returns-then-n-count
unfolding count_after
returns-then-n-count c = rw (
  le-leb _ _ c.if-n-count.true,
  c.if-not-counting.false,
)

pub overflow_sub-c-2 : goal.overflow_sub-c-2
overflow_sub-c-2 c =
    let a = c.args in
    omega (arith, mod-lt (a.n.0 - a.c.count - 1) {m = a.c.latch + 1} (omega arith))

pub returns : goal.returns
unfolding count_after
returns c = rw (
  lt-leb _ _ c.if-n-count.false,
  c.if-not-counting.false,
)
