use Rattle.cpu_access.specs.Bus.{read_of}
use Rattle.cpu_access.proofs.Bus.read.Goals as goal

pub returns-then-is_register : goal.returns-then-is_register
unfolding read_of
returns-then-is_register c = rw (← c.is_register.ensures, ← c.ask.ensures, c.if-is_register.true)

pub returns : goal.returns
unfolding read_of
returns c = rw (← c.is_register.ensures, ← c.memory_byte.ensures, c.if-is_register.false)
