use native.Mathlib.Omega.{arith}
use Rattle.r6501q_unseen.specs.Ticks.{unseen_listens}
use borrow.Author.Tests.{le-leb, lt-leb}
use borrow.Author.Rules.{rules}
use Rattle.r6501q_unseen.proofs.receiver.unseen_listens.Goals as goal

pub returns-then-not-receiver_asynchronous : goal.returns-then-not-receiver_asynchronous
unfolding unseen_listens
returns-then-not-receiver_asynchronous c = (
  rw (
    ← c.receiver_asynchronous.ensures,
    c.if-not-receiver_asynchronous.true,
  ),
  search rules,
)

pub returns-then-r-gt7 : goal.returns-then-r-gt7
unfolding unseen_listens
returns-then-r-gt7 c = (
  rw (
    ← c.receiver_asynchronous.ensures,
    lt-leb _ _ c.if-r-gt7.true,
    c.if-not-receiver_asynchronous.false,
  ),
  search rules,
)

pub returns-then-r : goal.returns-then-r
unfolding unseen_listens
returns-then-r c = (
  rw (
    ← c.receiver_asynchronous.ensures,
    ← c.unseen_looks-looks.ensures.0,
    c.if-r.true,
    le-leb _ _ c.if-r-gt7.false,
    c.if-not-receiver_asynchronous.false,
  ) (omega arith),
  search rules,
)

pub returns : goal.returns
unfolding unseen_listens
returns c = (
  rw (
    ← c.receiver_asynchronous.ensures,
    ← c.unseen_looks-looks.ensures.0,
    c.if-r.false,
    le-leb _ _ c.if-r-gt7.false,
    c.if-not-receiver_asynchronous.false,
  ) (omega arith),
  search rules,
)
