use Prim.Native.Nat.{◌+◌, ◌-◌}
use native.Mathlib.Nat.{div-le_self}
use native.Mathlib.Omega.{arith}
use Rattle.r6501q_unseen.specs.Ticks.{underflows_in}
use borrow.Author.Tests.{le-leb, lt-leb}
use Rattle.r6501q_unseen.proofs.counter.underflows_in.Goals as goal

pub returns-then-n-count : goal.returns-then-n-count
unfolding underflows_in
returns-then-n-count c = rw (le-leb _ _ c.if-n-count.true)

pub overflow_add-result : goal.overflow_add-result
overflow_add-result c =
    let a = c.args in
    omega (arith, div-le_self (a.n.0 - a.c.count - 1) (a.c.latch + 1))

pub returns : goal.returns
unfolding underflows_in
returns c = rw (lt-leb _ _ c.if-n-count.false)
