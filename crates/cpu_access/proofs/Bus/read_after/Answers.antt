use Rattle.cpu_access.specs.Stack.{read_after}
use Rattle.cpu_access.proofs.Bus.read_after.Goals as goal

pub returns-then-is_register : goal.returns-then-is_register
unfolding read_after
returns-then-is_register c = rw (← c.is_register.ensures, ← c.ask.ensures, c.if-is_register.true)

pub returns : goal.returns
unfolding read_after
returns c = rw (
  ← c.is_register.ensures,
  ← c.memory_byte-old.ensures,
  ← c.written_over.ensures,
  c.if-is_register.false,
)
