use Rattle.std.proofs.Common.{◌∙◌}
use Rattle.test_instructions.proofs.instruction.instruction_writes.Goals as goal

pub returns-in-Err : goal.returns-in-Err
returns-in-Err c = c.no_writes.ensures ∙ rw (← c.clock_alone-clocked.ensures, c.in-Err.is)

pub returns-in-Ok : goal.returns-in-Ok
returns-in-Ok c = c.writes_with.ensures
    ∙ rw (← c.clock_alone-clocked.ensures, c.in-Ok.is)
