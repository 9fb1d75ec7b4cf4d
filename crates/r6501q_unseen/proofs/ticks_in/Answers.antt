use Rattle.r6501q_unseen.proofs.CounterA.{ticks_closed}
use Rattle.r6501q_unseen.proofs.ticks_in.Goals as goal

pub returns-then-counting_a : goal.returns-then-counting_a
returns-then-counting_a c = rw (
  ticks_closed c.args.n.0 c.args.ports
      c.args.p,
  ← c.counting_a.ensures,
  c.if-counting_a.true,
) c.underflows_in.ensures

pub returns : goal.returns
returns c = rw (
  ticks_closed c.args.n.0 c.args.ports c.args.p,
  ← c.counting_a.ensures,
  c.if-counting_a.false,
)
