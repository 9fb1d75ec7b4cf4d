use mathlib.Core.Path.{refl}
use Rattle.cpu.specs.InstructionInCode.{operand_byte}
use Rattle.cpu.proofs.operand_byte.Goals as goal

pub returns-then-place : goal.returns-then-place
unfolding operand_byte
returns-then-place c = rw (c.in-Modify.is, c.if-place.true) refl

pub returns-in-Nothing : goal.returns-in-Nothing
unfolding operand_byte
returns-in-Nothing c = rw c.in-Nothing.is refl

pub returns-in-Read : goal.returns-in-Read
unfolding operand_byte
returns-in-Read c = rw (c.read.ensures, c.in-Read.is) refl

pub returns-else-place : goal.returns-else-place
unfolding operand_byte
returns-else-place c = rw (c.read-in-Modify.ensures, c.in-Modify.is, c.if-place.false) refl

pub returns-in-Jsr : goal.returns-in-Jsr
unfolding operand_byte
returns-in-Jsr c = rw c.in-Jsr.is refl
