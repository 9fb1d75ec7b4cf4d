use Rattle.std.proofs.Common.{◌∙◌, arith}
use Rattle.test_instructions.proofs.instruction.clock_alone.Goals as goal

pub clock-requires : goal.clock-requires
clock-requires c = rw c.prepared.ensures (omega arith)

pub returns : goal.returns
returns c = c.clock.ensures ∙ rw c.prepared.ensures
