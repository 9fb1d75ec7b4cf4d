use Rattle.cpu.specs.InstructionInCode.{writes_asked}
use Rattle.cpu.proofs.writes_asked.Goals as goal

pub returns-then-bus : goal.returns-then-bus
unfolding writes_asked
returns-then-bus c = rw (← c.no_writes.ensures, c.if-bus.true)

pub returns : goal.returns
unfolding writes_asked
returns c = rw c.if-bus.false
