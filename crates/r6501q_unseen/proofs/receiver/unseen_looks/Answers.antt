use native.Mathlib.Omega.{arith}
use Rattle.r6501q_unseen.specs.Ticks.{unseen_looks}
use borrow.Author.Tests.{eq-eqb, ne_eqb}
use borrow.Author.Rules.{rules}
use Rattle.r6501q_unseen.proofs.receiver.unseen_looks.Goals as goal

pub returns-then-r-ne0 : goal.returns-then-r-ne0
unfolding unseen_looks
returns-then-r-ne0 c = (rw (ne_eqb _ _ c.if-r-ne0.true), search rules)

pub returns-then-high : goal.returns-then-high
unfolding unseen_looks
returns-then-high c = (rw (c.if-high.true, eq-eqb _ _ c.if-r-ne0.false), search rules)

pub returns-then-passed-lt3 : goal.returns-then-passed-lt3
unfolding unseen_looks
returns-then-passed-lt3 c = (rw (c.if-high.false, eq-eqb _ _ c.if-r-ne0.false), search rules)

pub returns : goal.returns
unfolding unseen_looks
returns c = (rw (c.if-high.false, eq-eqb _ _ c.if-r-ne0.false) (omega arith), search rules)
