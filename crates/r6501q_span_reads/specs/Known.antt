-- Instructions whose operand is a register of the chip in the zero page, by a mode without an index: what is known of
-- their outcome in a span.
use Rattle.std.specs.Prelude.{◌≡◌, true, false, List, ℕ, ◌≤◌, Option, Some, None}
use Rattle.memory.specs.Memory.{is_register}
use Rattle.cpu_opcodes.specs.Decode.{decode_of}
use Rattle.cpu_opcodes.specs.declared.Entry.{Entry}
use Rattle.cpu_opcodes.specs.declared.Mode.TheVariants.{ZeroPage, ZeroPageRelative}
use Rattle.cpu_access.specs.declared.CpuRegisters.{CpuRegisters}
use Rattle.cpu_access.specs.Bus.{next_address, memory_byte}
use Rattle.cpu_access.specs.Stack.{no_writes}
use Rattle.cpu_effects.specs.declared.Worked.{Worked}
use Rattle.cpu_effects.specs.Effects.{pushes_of}
use Rattle.cpu.specs.declared.Outcome.TheVariants.{Done}
use Rattle.r6501q_state.specs.declared.state.State.{State}
use Rattle.r6501q_span_reads.specs.Steady.{outcome_within}

-- the three bytes from PC on lie in memory; the first is the opcode of the entry, which takes 7 clocks at most, the
-- second is a, a register's address
pub record Encoded (r : CpuRegisters) (memory : List ℕ) (e : Entry) (a : ℕ) : Type 0 where
  pub first : is_register r.pc ≡ false
  pub second : is_register (next_address r.pc) ≡ false
  pub third : is_register (next_address (next_address r.pc)) ≡ false
  pub opcode : decode_of (memory_byte memory r.pc) ≡ Some e
  pub operand : memory_byte memory (next_address r.pc) ≡ a
  pub register : is_register a ≡ true
  pub short : e.length ≤ 7

abbrev pub OnZeroPage : CpuRegisters → List ℕ → Entry → ℕ → Type 0
OnZeroPage r memory e a = Encoded r memory e a × (e.mode ≡ ZeroPage)

-- BBR and BBS
abbrev pub OnBit : CpuRegisters → List ℕ → Entry → ℕ → Type 0
OnBit r memory e a = Encoded r memory e a × (e.mode ≡ ZeroPageRelative)

-- what is known is the outcome, and that nothing is pushed; that nothing is known may be said of any instruction
abbrev pub Knows : State → CpuRegisters → List ℕ → Option Worked → Type 0
Knows s r memory None = Unit {0}
Knows s r memory (Some w) = (outcome_within s r memory ≡ Done w) × (pushes_of w.writing ≡ no_writes)
