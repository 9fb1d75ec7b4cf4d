use Rattle.r6501q_state.specs.State.{fresh}
use Rattle.test_instructions.proofs.instruction.prepared.Goals as goal

pub returns : goal.returns
unfolding fresh
returns c = rw c.fresh_state-state.ensures
