use Rattle.r6501q_events.proofs.Inputs.{no_input, first_input, first_passed}
use Rattle.r6501q_gaps.proofs.distances.to_input.Goals as goal

pub returns-then-clocks-eq0 : goal.returns-then-clocks-eq0
returns-then-clocks-eq0 c = rw (no_input _ _ _ c.if-clocks-eq0.true)

pub returns-then-next-clock : goal.returns-then-next-clock
returns-then-next-clock c = rw (first_passed _ _ _ c.if-clocks-eq0.false c.if-next-clock.true)

pub returns : goal.returns
returns c = rw (first_input _ _ _ c.if-clocks-eq0.false)
