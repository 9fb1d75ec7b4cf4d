-- Addressing modes (001, appendix A) by their accesses: the operand bytes in order, then the pointer, low byte first.
use Rattle.std.specs.Prelude.{ℕ, Bool, true, false}
use Rattle.bits.specs.Bits.{wrapping8, wrapping16}
use Rattle.cpu_opcodes.specs.declared.Mode.{Mode}
use Rattle.cpu_opcodes.specs.declared.Mode.TheVariants.{Implied, Accumulator, Immediate, ZeroPage, ZeroPageX}
use Rattle.cpu_opcodes.specs.declared.Mode.TheVariants.{ZeroPageY, Absolute, AbsoluteX, AbsoluteY, IndexedIndirect}
use Rattle.cpu_opcodes.specs.declared.Mode.TheVariants.{IndirectIndexed, Indirect, Relative, ZeroPageRelative}
use Rattle.cpu_access.specs.declared.CpuRegisters.{CpuRegisters}
use Rattle.cpu_access.specs.Bus.{next_address}
use Rattle.cpu_modes.specs.Modes.{other_page, zero_page_address, second_address, displacement}
use Rattle.cpu_access.specs.Accesses.{Accesses, ends, ◌>>=◌, byte_at, address_at}

-- where the operand lies, whether finding it crossed a page, whether it is the accumulator, and PC past the operand
-- bytes
pub record Located : Type 0 where
  pub address : ℕ
  pub crossed : Bool
  pub accumulator : Bool
  pub pc : ℕ

-- no operand in memory
abbrev pub no_operand : Bool → ℕ → Located
no_operand accumulator pc = record { address = 0; crossed = false; accumulator = accumulator; pc = pc }

abbrev pub operand_at : ℕ → ℕ → Located
operand_at a pc = record { address = a; crossed = false; accumulator = false; pc = pc }

-- at an address that was counted from another, and may lie in another page than that one
abbrev pub counted_from : ℕ → ℕ → ℕ → Located
counted_from base a pc = record { address = a; crossed = other_page base a; accumulator = false; pc = pc }

abbrev pub indexed_from : ℕ → ℕ → ℕ → Located
indexed_from base i pc = counted_from base (wrapping16 base i) pc

-- a branch's target counts from the next instruction
abbrev pub branch_target : ℕ → ℕ → Located
branch_target offset pc = counted_from pc (wrapping16 pc (displacement offset)) pc

-- the two operand bytes at PC, and PC past them
abbrev pub operand_address : ℕ → Accesses ℕ
operand_address pc = address_at pc (next_address pc)

abbrev pub past_address : ℕ → ℕ
past_address pc = next_address (next_address pc)

-- a pointer in the zero page; its high byte stays there
abbrev pub pointer_at : ℕ → Accesses ℕ
pointer_at z = address_at z (wrapping8 z 1)

-- PC stands behind the opcode
unfoldable pub located : Mode → CpuRegisters → Accesses Located
located Implied r = ends (no_operand false r.pc)
located Accumulator r = ends (no_operand true r.pc)
located Immediate r = ends (operand_at r.pc (next_address r.pc))
located ZeroPage r = do
  z ← byte_at r.pc
  ends (operand_at z (next_address r.pc))
located ZeroPageX r = do
  z ← byte_at r.pc
  ends (operand_at (zero_page_address z r.x) (next_address r.pc))
located ZeroPageY r = do
  z ← byte_at r.pc
  ends (operand_at (zero_page_address z r.y) (next_address r.pc))
located Absolute r = do
  a ← operand_address r.pc
  ends (operand_at a (past_address r.pc))
located AbsoluteX r = do
  base ← operand_address r.pc
  ends (indexed_from base r.x (past_address r.pc))
located AbsoluteY r = do
  base ← operand_address r.pc
  ends (indexed_from base r.y (past_address r.pc))
located IndexedIndirect r = do
  z ← byte_at r.pc
  a ← pointer_at (zero_page_address z r.x)
  ends (operand_at a (next_address r.pc))
located IndirectIndexed r = do
  z ← byte_at r.pc
  base ← pointer_at z
  ends (indexed_from base r.y (next_address r.pc))
located Indirect r = do
  p ← operand_address r.pc
  a ← address_at p (second_address p)
  ends (operand_at a (past_address r.pc))
located Relative r = do
  offset ← byte_at r.pc
  ends (branch_target offset (next_address r.pc))
located ZeroPageRelative r = do
  z ← byte_at r.pc
  ends (operand_at z (next_address r.pc))
