use Rattle.r6501q_cpu.specs.Asking.{round_of}
use Rattle.r6501q_cpu.proofs.one_round.Goals as goal

pub returns-in-Undefined : goal.returns-in-Undefined
unfolding round_of
returns-in-Undefined c = rw (
  ← c.registers_of.ensures,
  ← c.instruction-outcome.ensures,
  c.in-Undefined.is,
)

pub returns-in-Asked : goal.returns-in-Asked
unfolding round_of
returns-in-Asked c = rw (
  c.answer.ensures,
  ← c.registers_of.ensures,
  ← c.instruction-outcome.ensures,
  c.in-Asked.is,
)

pub returns-in-Done : goal.returns-in-Done
unfolding round_of
returns-in-Done c = rw (
  c.next_state.ensures,
  ← c.registers_of.ensures,
  ← c.instruction-outcome.ensures,
  c.in-Done.is,
)
