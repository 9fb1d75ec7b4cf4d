-- One whole instruction as the code works it, with the answers so far: the opcode, the operand's place, its byte, the
-- operation. What is to be believed of an instruction stands in `InstructionAccesses.antt`; this is the same, asked
-- (`instruction_asked` of `cpu/proofs/InstructionAccesses.antt`).
use Rattle.std.specs.Prelude.{true, false, cond, List, ℕ, Option, Some, None}
use Rattle.bits.specs.Bits.{word16}
use Rattle.cpu_opcodes.specs.Decode.{decode_of}
use Rattle.cpu_opcodes.specs.declared.Entry.{Entry}
use Rattle.cpu_access.specs.declared.Bus.{Bus}
use Rattle.cpu_access.specs.declared.Got.{Got}
use Rattle.cpu_access.specs.declared.Fetched.{Fetched}
use Rattle.cpu_access.specs.declared.CpuRegisters.{CpuRegisters}
use Rattle.cpu_modes.specs.declared.Place.{Place}
use Rattle.cpu_access.specs.declared.stack.Writes.{Writes}
use Rattle.cpu_access.specs.Bus.{unasked, got, read_of, fetch_of}
use Rattle.cpu_access.specs.Stack.{no_writes, down, push_address, read_after}
use Rattle.cpu_modes.specs.Modes.{locate_of}
use Rattle.cpu.specs.declared.Ask.{Ask}
use Rattle.cpu.specs.declared.Outcome.{Outcome}
use Rattle.cpu.specs.declared.Outcome.TheVariants.{Undefined, Asked, Done}
use Rattle.cpu_effects.specs.declared.Writing.TheVariants.{Pushed}
use Rattle.cpu_effects.specs.Operand.{Operand}
use Rattle.cpu_effects.specs.declared.Executed.{Executed}
use Rattle.cpu_operations.specs.declared.Access.{Access}
use Rattle.cpu_operations.specs.declared.Access.TheVariants.{Nothing, Read, Modify, Jsr}
use Rattle.cpu_effects.specs.Effects.{with_sp, with_pc, executed}
use Rattle.cpu_operations.specs.Operations.{access_of, is_jsr, operate_of}

-- what is asked, with the writes that were made before
abbrev pub ask_with : Writes → Bus → Ask
ask_with w b = record { address = b.address; modify = b.modify; writes = w }

-- an instruction that still asks is not done
unfoldable pub outcome_of : Writes → Executed → Outcome
outcome_of w e = cond e.bus.missing (Asked (ask_with w e.bus)) (Done e.worked)

-- the operand's byte: read once, by a read-modify-write instruction from a port's latch (001, 4.1)
unfoldable pub operand_byte : List ℕ → List ℕ → Access → ℕ → Place → Got ℕ
operand_byte answers memory Nothing a p = got 0 p.bus
operand_byte answers memory Read a p = read_of answers memory p.address false p.bus
operand_byte answers memory Modify a p =
    cond p.accumulator (got a p.bus) (read_of answers memory p.address true p.bus)
operand_byte answers memory Jsr a p = got 0 p.bus

abbrev pub operand_of : ℕ → Place → Got ℕ → Operand
operand_of n p g = record {
  address = p.address;
  value = g.value;
  crossed = p.crossed;
  accumulator = p.accumulator;
  length = n;
  bus = g.bus;
}

abbrev pub operate_at : List ℕ → List ℕ → Entry → CpuRegisters → Place → Executed
operate_at answers memory e r p =
    operate_of answers memory e.operation (with_pc p.pc r)
    (operand_of e.length p (operand_byte answers memory (access_of e.operation) r.a p))

unfoldable pub carried_out : List ℕ → List ℕ → Entry → CpuRegisters → Bus → Executed
carried_out answers memory e r b = operate_at answers memory e r (locate_of answers memory e.mode r b)

-- JSR: the low byte of the target is read, the address of its own last byte is pushed, and only then the high byte is
-- read
abbrev pub jsr_to : CpuRegisters → ℕ → Fetched ℕ → Writes → Got ℕ → Executed
jsr_to r n l w h =
    executed (with_pc (word16 h.value l.value) (with_sp (down (down r.sp)) r)) (Pushed w) n h.bus

-- a question about the low byte comes before the pushes
unfoldable pub writes_asked : Bus → Writes → Writes
writes_asked b w = cond b.missing no_writes w

abbrev pub jsr_pushed : List ℕ → List ℕ → CpuRegisters → ℕ → Fetched ℕ → Writes → Outcome
jsr_pushed answers memory r n l w =
    outcome_of (writes_asked l.bus w) (jsr_to r n l w (read_after answers memory w l.pc l.bus))

abbrev pub jsr_after : List ℕ → List ℕ → CpuRegisters → ℕ → Fetched ℕ → Outcome
jsr_after answers memory r n l = jsr_pushed answers memory r n l (push_address r.sp l.pc)

unfoldable pub jsr_outcome : List ℕ → List ℕ → CpuRegisters → ℕ → Bus → Outcome
jsr_outcome answers memory r n b = jsr_after answers memory r n (fetch_of answers memory r.pc b)

-- a defined opcode; PC stands behind it
unfoldable pub execute_of : List ℕ → List ℕ → Entry → CpuRegisters → Bus → Outcome
execute_of answers memory e r b =
    cond (is_jsr (access_of e.operation)) (jsr_outcome answers memory r e.length b)
    (outcome_of no_writes (carried_out answers memory e r b))

abbrev pub decoded_to : List ℕ → List ℕ → CpuRegisters → Bus → Option Entry → Outcome
decoded_to answers memory r b None = Undefined
decoded_to answers memory r b (Some e) = execute_of answers memory e r b

-- an opcode that has to be asked for is no opcode yet
abbrev pub opcode_fetched : List ℕ → List ℕ → CpuRegisters → Fetched ℕ → Outcome
opcode_fetched answers memory r f =
    cond f.bus.missing (Asked (ask_with no_writes f.bus))
    (decoded_to answers memory (with_pc f.pc r) f.bus (decode_of f.value))

unfoldable pub instruction_of : CpuRegisters → List ℕ → List ℕ → Outcome
instruction_of r answers memory = opcode_fetched answers memory r (fetch_of answers memory r.pc unasked)
