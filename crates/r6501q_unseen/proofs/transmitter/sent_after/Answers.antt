use native.Mathlib.Omega.{arith}
use Rattle.r6501q_unseen.specs.Ticks.{sent_after}
use Rattle.r6501q_unseen.proofs.transmitter.sent_after.Goals as goal

pub overflow_add-t : goal.overflow_add-t
overflow_add-t c =
    let k = c.requires
    (rw c.transmitter_on.ensures at c.if-sends.true) in
    omega arith

pub overflow_cast-t-then-sends : goal.overflow_cast-t-then-sends
overflow_cast-t-then-sends c =
    let k = c.requires
    (rw c.transmitter_on.ensures at c.if-sends.true) in
    omega arith

pub returns-then-sends : goal.returns-then-sends
unfolding sent_after
returns-then-sends c = rw (← c.transmitter_on.ensures, c.if-sends.true)

pub returns : goal.returns
unfolding sent_after
returns c = rw (← c.transmitter_on.ensures, c.if-sends.false)
