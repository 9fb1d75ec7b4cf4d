use Rattle.counters.specs.Counters.{in_force}
use Rattle.counters.proofs.time.in_force.Goals as goal

pub returns-then-held : goal.returns-then-held
unfolding in_force
returns-then-held c = rw c.if-held.true

pub returns-else-held : goal.returns-else-held
unfolding in_force
returns-else-held c = rw c.if-held.false
