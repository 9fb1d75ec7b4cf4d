use Rattle.std.proofs.Common.{◌∙◌}
use Rattle.test_instructions.proofs.instruction.writes_with.Goals as goal

pub returns-in-Some : goal.returns-in-Some
returns-in-Some c = c.one_write.ensures ∙ rw c.in-Some.is
