use Rattle.cpu_alu.specs.Arithmetic.{sbc_of}
use Rattle.cpu_alu.proofs.arithmetic.sbc.Goals as goal

pub returns-then-status : goal.returns-then-status
unfolding sbc_of
returns-then-status c = rw (
  ← c.add_binary-binary.ensures,
  ← c.subtract_decimal.ensures,
  c.if-status.true,
)

pub returns-else-status : goal.returns-else-status
unfolding sbc_of
returns-else-status c = rw (← c.add_binary-binary.ensures, c.if-status.false)
