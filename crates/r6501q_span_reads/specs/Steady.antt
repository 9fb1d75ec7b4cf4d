-- Reads of registers within a span: those that have no effect and whose value stays (01, One clock, 4; 001, C.1).
use Rattle.std.specs.Prelude.{Bool, ◌&&◌, ◌||◌, cond, List, [], ◌∷◌, ℕ, ltb, eqb}
use Rattle.cpu_access.specs.declared.CpuRegisters.{CpuRegisters}
use Rattle.cpu.specs.declared.Ask.{Ask}
use Rattle.cpu.specs.declared.Outcome.{Outcome}
use Rattle.cpu.specs.declared.Outcome.TheVariants.{Undefined, Asked, Done}
use Rattle.cpu.specs.InstructionInCode.{instruction_of}
use Rattle.r6501q_state.specs.declared.state.State.{State}
use Rattle.r6501q_registers.specs.Addresses.{serial_data_address, start_b_address}
use Rattle.r6501q_registers.specs.Read.{register_value}

-- a read of the register has no effect, and what it reads as stays in a span; left out are 17h to 1Eh: the data
-- received, the counters, and 1Bh between them
unfoldable pub steady_at : ℕ → Bool
steady_at a = ltb a serial_data_address || ltb start_b_address a

-- an instruction asks for such a register, and wrote nothing before
unfoldable pub steady_ask : Ask → Bool
steady_ask ask = eqb ask.writes.count 0 && steady_at ask.address

-- what it reads as since the span's start
abbrev pub steady_answer : State → Ask → ℕ
steady_answer s ask = register_value s.peripherals s.last.ports ask.modify ask.address

-- one such question is answered
abbrev pub answered_once : State → CpuRegisters → List ℕ → Outcome → Outcome
answered_once s r memory Undefined = Undefined
answered_once s r memory (Asked ask) =
    cond (steady_ask ask) (instruction_of r (steady_answer s ask ∷ []) memory) (Asked ask)
answered_once s r memory (Done worked) = Done worked

-- what the next instruction comes to in a span that began with the state s
unfoldable pub outcome_within : State → CpuRegisters → List ℕ → Outcome
outcome_within s r memory = answered_once s r memory (instruction_of r [] memory)
