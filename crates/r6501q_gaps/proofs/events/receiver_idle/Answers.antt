use Rattle.std.proofs.Common.{◌≡◌, Bool, true, false, refl}
use Rattle.std.proofs.Math.Bool.{and_assoc, not, beq}
use Rattle.r6501q_events.specs.Events.{receiver_idle}
use Rattle.r6501q_gaps.proofs.events.receiver_idle.Goals as goal

beq-false : (b : Bool) → beq b false ≡ not b
beq-false true = refl
beq-false false = refl

pub returns : goal.returns
unfolding receiver_idle
returns c =
    simp (and_assoc, ← beq-false c.args.t.half) (rw c.idle_receiver.ensures at c.eq.ensures)
