use Rattle.cpu.specs.InstructionInCode.{execute_of}
use Rattle.cpu.proofs.execute.Goals as goal

pub returns-then-is_jsr : goal.returns-then-is_jsr
unfolding execute_of
returns-then-is_jsr c = rw (
  ← c.access_of-access.ensures,
  ← c.is_jsr.ensures,
  ← c.jsr.ensures,
  c.if-is_jsr.true,
)

pub carried_out-requires : goal.carried_out-requires
carried_out-requires c = record { length_bound = c.requires; access_value = c.access_of-access.ensures }

pub returns : goal.returns
unfolding execute_of
returns c = rw (
  ← c.access_of-access.ensures,
  ← c.is_jsr.ensures,
  ← c.no_writes.ensures,
  ← c.carried_out.ensures,
  ← c.outcome_of.ensures,
  c.if-is_jsr.false,
)
