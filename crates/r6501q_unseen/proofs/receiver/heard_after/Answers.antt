use Rattle.r6501q_unseen.proofs.Reception.{waits_within, takes_within}
use Rattle.r6501q_unseen.specs.Ticks.{looked_for, heard_after}
use borrow.Author.Tests.{eq-eqb, ne_eqb}
use Rattle.r6501q_unseen.proofs.receiver.heard_after.Goals as goal

pub returns-then-not-listens : goal.returns-then-not-listens
unfolding heard_after
returns-then-not-listens c = rw (
  ← c.receiver_asynchronous.ensures,
  c.if-not-listens.true,
)

pub waited_for-requires : goal.waited_for-requires
waited_for-requires c =
    let a = c.args in
    let on = rw c.receiver_asynchronous.ensures
    at
    (c.if-not-listens.false) in
    λ low. rw c.one_where.ensures
    (waits_within a.ticks a.r a.sccr a.high on c.requires.ticks_bound c.if-r-eq0.true low)

pub returns-then-r-eq0 : goal.returns-then-r-eq0
unfolding heard_after looked_for
returns-then-r-eq0 c =
    let a = c.args in
    let on = c.if-not-listens.false in
    rw (
      c.waited_for.ensures,
      c.one_where.ensures,
      ← c.receiver_asynchronous.ensures,
      on,
      eq-eqb a.r.left 0 c.if-r-eq0.true,
    )

pub taken_for-requires : goal.taken_for-requires
taken_for-requires c =
    let a = c.args in
    let on = rw c.receiver_asynchronous.ensures
    at
    (c.if-not-listens.false) in
    rw c.one_where.ensures
    (takes_within a.ticks a.r a.sccr a.high on c.requires.ticks_bound c.if-r-eq0.false)

pub returns : goal.returns
unfolding heard_after looked_for
returns c =
    let a = c.args in
    let on = c.if-not-listens.false in
    rw (
      c.taken_for.ensures,
      c.one_where.ensures,
      ← c.receiver_asynchronous.ensures,
      on,
      ne_eqb a.r.left 0 c.if-r-eq0.false,
    )
