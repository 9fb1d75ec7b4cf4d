use Rattle.test_instructions.proofs.instruction.later.Goals as goal

pub returns : goal.returns
returns c = rw c.prepared-state.ensures
