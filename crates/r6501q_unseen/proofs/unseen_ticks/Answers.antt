use native.Mathlib.Omega.{arith}
use Rattle.r6501q_unseen.specs.Ticks.{unseen_ticks}
use borrow.Author.Rules.{rules}
use Rattle.r6501q_unseen.proofs.unseen_ticks.Goals as goal

pub returns-then-not-underflow_unseen : goal.returns-then-not-underflow_unseen
unfolding unseen_ticks
returns-then-not-underflow_unseen c = (
  rw (← c.underflow_unseen.ensures, c.if-not-underflow_unseen.true),
  search rules,
)

pub returns-then-sends-listens : goal.returns-then-sends-listens
unfolding unseen_ticks
returns-then-sends-listens c = (
  rw (
    ← c.underflow_unseen.ensures,
    ← c.unseen_sends-sends.ensures.0,
    ← c.bit32.ensures,
    ← c.unseen_listens-listens.ensures.0,
    c.if-not-underflow_unseen.false,
  ) (omega arith),
  search rules,
)

pub returns : goal.returns
unfolding unseen_ticks
returns c = (
  rw (
    ← c.underflow_unseen.ensures,
    ← c.unseen_sends-sends.ensures.0,
    ← c.bit32.ensures,
    ← c.unseen_listens-listens.ensures.0,
    c.if-not-underflow_unseen.false,
  ) (omega arith),
  search rules,
)
