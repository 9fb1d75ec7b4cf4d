use native.Mathlib.Omega.{arith}
use Rattle.r6501q_unseen.specs.Ticks.{waited_looks}
use borrow.Author.Tests.{eq-eqb, ne_eqb}
use Rattle.r6501q_unseen.proofs.receiver.waited_for.Goals as goal

pub overflow_add-r : goal.overflow_add-r
overflow_add-r c =
    let k = c.requires (c.if-not-high.true) in omega arith

pub overflow_cast-r-then-not-high : goal.overflow_cast-r-then-not-high
overflow_cast-r-then-not-high c =
    let k = c.requires (c.if-not-high.true) in omega arith

pub returns-then-not-high : goal.returns-then-not-high
unfolding waited_looks
returns-then-not-high c = rw (c.if-not-high.true)

pub returns-then-looks-eq0 : goal.returns-then-looks-eq0
unfolding waited_looks
returns-then-looks-eq0 c = rw (eq-eqb _ _ c.if-looks-eq0.true, c.if-not-high.false)

pub returns : goal.returns
unfolding waited_looks
returns c = rw (ne_eqb _ _ c.if-looks-eq0.false, c.if-not-high.false)
