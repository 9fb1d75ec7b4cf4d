use Rattle.r6501q_unseen.proofs.Clocks.{hidden_in, unseen_closed}
use Rattle.r6501q_unseen.proofs.Transmission.{sends_within, sends_most}
use Rattle.r6501q_unseen.specs.Unseen.{ticks_in}
use native.Mathlib.Omega.{arith}
use Rattle.r6501q_unseen.proofs.pass_unseen.Goals as goal

pub sent_after-transmitter-requires : goal.sent_after-transmitter-requires
sent_after-transmitter-requires c =
    let a = c.args in
    let h = hidden_in a.n.0 a.ports a.p c.requires in
    λ on. rw c.ticks_in-ticks.ensures
    (sends_within (ticks_in a.n.0 a.ports a.p) a.p.transmitter a.p.control.sccr a.p.control.scsr
    h.sends on)

pub heard_after-receiver-requires : goal.heard_after-receiver-requires
heard_after-receiver-requires c =
    let a = c.args in
    let h = hidden_in a.n.0 a.ports a.p c.requires in
    let most = sends_most a.p.transmitter a.p.control.sccr a.p.control.scsr in
    let sends = h.sends in
    rw (c.bit32.ensures, c.ticks_in-ticks.ensures)
    (record { ticks_bound = h.listens; ticks_le_most_ticks = omega arith })

pub returns : goal.returns
returns c =
    let a = c.args in
    let closed = unseen_closed a.n.0 a.ports a.p
    c.requires in
    rw (
      closed,
      c.heard_after-receiver.ensures,
      c.bit32.ensures,
      c.sent_after-transmitter.ensures,
      c.pass-counter_b.ensures,
      c.counting_b.ensures,
      c.counter_after-counter_a.ensures,
      c.counting_a.ensures,
      c.ticks_in-ticks.ensures,
    )
