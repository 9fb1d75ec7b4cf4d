use Rattle.cpu.specs.InstructionInCode.{outcome_of}
use Rattle.cpu.proofs.outcome_of.Goals as goal

pub returns-then-bus : goal.returns-then-bus
unfolding outcome_of
returns-then-bus c = rw (← c.ask_with.ensures, c.if-bus.true)

pub returns : goal.returns
unfolding outcome_of
returns c = rw c.if-bus.false
