-- One instruction of a span tried by its opcode: done whole, with the byte that it stores put, or not at all.
use Rattle.std.specs.Prelude.{◌≡◌, Bool, false, ◌||◌, cond, Option, Some, None, List, [], ℕ, ◌+◌, ◌-◌, ◌≤◌, ◌<◌, ltb}
use Rattle.bits.specs.Bits.{one_where}
use Rattle.memory.specs.Memory.{is_register}
use Rattle.cpu_opcodes.specs.declared.Mode.{Mode}
use Rattle.cpu_opcodes.specs.declared.operation.BitBranchOperation.{BitBranchOperation}
use Rattle.cpu_opcodes.specs.declared.operation.FlagOperation.{FlagOperation}
use Rattle.cpu_opcodes.specs.declared.operation.ModifyOperation.{ModifyOperation}
use Rattle.cpu_opcodes.specs.declared.operation.PullOperation.{PullOperation}
use Rattle.cpu_opcodes.specs.declared.operation.ReadOperation.{ReadOperation}
use Rattle.cpu_opcodes.specs.declared.operation.RegisterOperation.{RegisterOperation}
use Rattle.cpu_opcodes.specs.declared.operation.StoreOperation.{StoreOperation}
use Rattle.cpu_access.specs.declared.CpuRegisters.{CpuRegisters}
use Rattle.cpu_modes.specs.declared.Place.{Place}
use Rattle.cpu_access.specs.declared.stack.Write.{Write}
use Rattle.cpu_access.specs.declared.stack.Writes.{Writes}
use Rattle.cpu_access.specs.declared.Fetched.{Fetched}
use Rattle.cpu_access.specs.declared.Got.{Got}
use Rattle.cpu_access.specs.declared.stack.Pulled.{Pulled}
use Rattle.cpu_alu.specs.declared.Computed.{Computed}
use Rattle.cpu_alu.specs.declared.Status.{Status}
use Rattle.cpu_alu.specs.Status.{unpacked}
use Rattle.bits.specs.Bits.{word16}
use Rattle.cpu_access.specs.Bus.{unasked, next_address, memory_byte, fetch_of}
use Rattle.cpu_modes.specs.Modes.{locate_of, relative_to}
use Rattle.cpu_access.specs.Stack.{write_at, one_write, push_at, down, push_address, pull_of, pull_address, read_after}
use Rattle.cpu_effects.specs.declared.Worked.{Worked}
use Rattle.cpu_effects.specs.declared.Writing.{Writing}
use Rattle.cpu_effects.specs.declared.Writing.TheVariants.{Nothing, Stored}
use Rattle.cpu_effects.specs.Effects.{pushes_of, waiting_of}
use Rattle.cpu_kinds.specs.Kinds.{with_read, changed_by, byte_to_store, bit_branch_taken, with_pulled, with_register}
use Rattle.cpu_kinds.specs.Kinds.{with_flag}
use Rattle.cpu_kinds.specs.Updates.{with_pc, with_sp, with_status, into_a}
use Rattle.cpu.specs.declared.Outcome.TheVariants.{Done}
use Rattle.cpu.specs.declared.work.Work.{Work}
use Rattle.cpu.specs.InstructionInCode.{instruction_of}
use Rattle.cpu.specs.Work.{next_work, waited_out}
use Rattle.memory_writes.specs.Commit.{committed}
use Rattle.cpu_access.specs.Halt.{ends_span}

-- one instruction whole: one that leaves no byte waiting, its pushes in memory; or a store, on whose last clock, within
-- the span too, its byte is put. Neither writes to a register or at the halt address.
pub data Instructed (halt : Option ℕ) (span : ℕ) (w : Work) (memory : List ℕ) : Work → List ℕ → Type 0 where
  pushing : (worked : Worked) → w.gone.0 + w.wait < span → instruction_of w.registers [] memory ≡ Done worked
      → waiting_of worked.writing ≡ None → ends_span halt (pushes_of worked.writing) ≡ false
      → Instructed halt span w memory (next_work w worked) (committed memory (pushes_of worked.writing))
  storing : (worked : Worked) (x : Write) → w.gone.0 + w.wait + worked.length ≤ span → 1 < worked.length
      → instruction_of w.registers [] memory ≡ Done worked → worked.writing ≡ Stored x
      → ends_span halt (one_write x) ≡ false
      → Instructed halt span w memory (waited_out (next_work w worked)) (committed memory (one_write x))

-- an attempt: the work after the instruction, where it was done
abbrev pub Attempt : Type 0
Attempt = Option Work

-- what is tried leaves all as it was, or is one instruction whole
pub data Tries (halt : Option ℕ) (span : ℕ) (w : Work) (memory : List ℕ) : Attempt → List ℕ → Type 0 where
  unchanged : Tries halt span w memory None memory
  whole : {w' : Work} {memory' : List ℕ} → Instructed halt span w memory w' memory'
      → Tries halt span w memory (Some w') memory'

-- ---- what the functions for each kind of operation give

-- the registers, PC behind the opcode
abbrev pub behind_opcode : Work → CpuRegisters
behind_opcode w = with_pc (next_address w.registers.pc) w.registers

-- the place of the operand, no register having been read
abbrev pub place_of : Work → List ℕ → Mode → Place
place_of w memory m = locate_of [] memory m (behind_opcode w) unasked

abbrev pub worked_out : CpuRegisters → Writing → ℕ → Worked
worked_out r x n = record { registers = r; writing = x; length = n }

-- an instruction of n clocks that writes nothing to memory, or has pushed
abbrev pub started_next : Work → CpuRegisters → ℕ → Attempt
started_next w r n = Some (next_work w (worked_out r Nothing n))

-- a store of n clocks, its byte put
abbrev pub stored_whole : Work → CpuRegisters → ℕ → Attempt
stored_whole w r n = Some (waited_out (next_work w (worked_out r Nothing n)))

-- the operand, or a byte on the way to it, is a register's
abbrev pub asks_for : Place → Bool
asks_for p = p.bus.missing || is_register p.address

-- a store is left undone: at a register, at the halt address, or where its last clock lies behind the span
abbrev pub store_deferred : Option ℕ → ℕ → Work → Write → ℕ → Bool
store_deferred halt span w x n = ends_span halt (one_write x) || ltb (span - w.gone.0) (w.wait + n)

unfoldable pub read_tried : ReadOperation → Work → List ℕ → Place → ℕ → Attempt
read_tried o w memory p n =
    cond (asks_for p) None
    (started_next w (with_read o (with_pc p.pc w.registers) (memory_byte memory p.address))
    (n + one_where p.crossed))

-- a byte is stored by an instruction that leaves the registers r
unfoldable pub store_tried : Option ℕ → ℕ → Work → CpuRegisters → Write → ℕ → Attempt
store_tried halt span w r x n = cond (store_deferred halt span w x n) None (stored_whole w r n)

unfoldable pub store_memory : Option ℕ → ℕ → Work → Write → ℕ → List ℕ → List ℕ
store_memory halt span w x n memory = cond (store_deferred halt span w x n) memory (committed memory (one_write x))

-- STA, STX and STY
unfoldable pub save_tried : Option ℕ → ℕ → StoreOperation → Work → Place → ℕ → Attempt
save_tried halt span o w p n =
    cond (asks_for p) None
    (store_tried halt span w (with_pc p.pc w.registers) (write_at p.address (byte_to_store o w.registers)) n)

unfoldable pub save_memory : Option ℕ → ℕ → StoreOperation → Work → Place → ℕ → List ℕ → List ℕ
save_memory halt span o w p n memory =
    cond (asks_for p) memory (store_memory halt span w (write_at p.address (byte_to_store o w.registers)) n memory)

-- operations that change a byte in memory
abbrev pub changed_at : ModifyOperation → Work → List ℕ → Place → Computed
changed_at o w memory p = changed_by o (memory_byte memory p.address) w.registers.status

unfoldable pub change_tried : Option ℕ → ℕ → ModifyOperation → Work → List ℕ → Place → ℕ → Attempt
change_tried halt span o w memory p n =
    cond (asks_for p) None
    (store_tried halt span w (with_status (changed_at o w memory p).status (with_pc p.pc w.registers))
    (write_at p.address (changed_at o w memory p).value) n)

unfoldable pub change_memory : Option ℕ → ℕ → ModifyOperation → Work → List ℕ → Place → ℕ → List ℕ
change_memory halt span o w memory p n =
    cond (asks_for p) memory (store_memory halt span w (write_at p.address (changed_at o w memory p).value) n memory)

-- and A
unfoldable pub accumulator_tried : ModifyOperation → Work → ℕ → ℕ → Attempt
accumulator_tried o w pc n =
    started_next w (into_a (changed_by o w.registers.a w.registers.status) (with_pc pc w.registers)) n

unfoldable pub branch_tried : Bool → Work → Place → ℕ → Attempt
branch_tried taken w p n =
    cond p.bus.missing None
    (cond taken (started_next w (with_pc p.address w.registers) (n + 1 + one_where p.crossed))
    (started_next w (with_pc p.pc w.registers) n))

unfoldable pub bit_branch_tried : BitBranchOperation → Work → List ℕ → Place → ℕ → Attempt
bit_branch_tried o w memory p n =
    cond (asks_for p) None
    (branch_tried (bit_branch_taken o (memory_byte memory p.address)) w
    (relative_to (fetch_of [] memory p.pc p.bus)) n)

unfoldable pub jump_tried : Work → Place → ℕ → Attempt
jump_tried w p n = cond p.bus.missing None (started_next w (with_pc p.address w.registers) n)

-- PHA and PHP
unfoldable pub push_tried : Option ℕ → Work → ℕ → ℕ → ℕ → Attempt
push_tried halt w v pc n =
    cond (ends_span halt (one_write (push_at w.registers.sp v))) None
    (started_next w (with_sp (down w.registers.sp) (with_pc pc w.registers)) n)

unfoldable pub push_memory : Option ℕ → Work → ℕ → List ℕ → List ℕ
push_memory halt w v memory =
    cond (ends_span halt (one_write (push_at w.registers.sp v))) memory
    (committed memory (one_write (push_at w.registers.sp v)))

-- PLA and PLP
abbrev pub pulled_attempt : PullOperation → Work → ℕ → ℕ → Pulled ℕ → Attempt
pulled_attempt o w pc n p =
    cond p.bus.missing None
    (started_next w (with_pulled o (with_sp p.sp (with_pc pc w.registers)) p.value) n)

unfoldable pub pull_tried : PullOperation → Work → List ℕ → ℕ → ℕ → Attempt
pull_tried o w memory pc n = pulled_attempt o w pc n (pull_of [] memory w.registers.sp unasked)

-- JSR
abbrev pub jsr_pushes : Work → Fetched ℕ → Writes
jsr_pushes w l = push_address w.registers.sp l.pc

abbrev pub jsr_upper : List ℕ → Work → Fetched ℕ → Got ℕ
jsr_upper memory w l = read_after [] memory (jsr_pushes w l) l.pc l.bus

abbrev pub jsr_attempt : Option ℕ → Work → ℕ → Fetched ℕ → Got ℕ → Attempt
jsr_attempt halt w n l u =
    cond (u.bus.missing || ends_span halt (jsr_pushes w l)) None
    (started_next w (with_pc (word16 u.value l.value) (with_sp (down (down w.registers.sp)) w.registers)) n)

abbrev pub jsr_bytes : Option ℕ → Work → List ℕ → Fetched ℕ → Got ℕ → List ℕ
jsr_bytes halt w memory l u =
    cond (u.bus.missing || ends_span halt (jsr_pushes w l)) memory (committed memory (jsr_pushes w l))

unfoldable pub jsr_tried : Option ℕ → Work → List ℕ → ℕ → ℕ → Attempt
jsr_tried halt w memory pc n =
    jsr_attempt halt w n (fetch_of [] memory pc unasked) (jsr_upper memory w (fetch_of [] memory pc unasked))

unfoldable pub jsr_memory : Option ℕ → Work → List ℕ → ℕ → List ℕ
jsr_memory halt w memory pc =
    jsr_bytes halt w memory (fetch_of [] memory pc unasked) (jsr_upper memory w (fetch_of [] memory pc unasked))

-- RTS
abbrev pub return_attempt : Work → ℕ → Pulled ℕ → Attempt
return_attempt w n p =
    cond p.bus.missing None
    (started_next w (with_pc (next_address p.value) (with_sp p.sp w.registers)) n)

unfoldable pub return_tried : Work → List ℕ → ℕ → Attempt
return_tried w memory n = return_attempt w n (pull_address [] memory w.registers.sp unasked)

-- RTI
abbrev pub resume_attempt : Work → ℕ → Status → Pulled ℕ → Attempt
resume_attempt w n s p =
    cond p.bus.missing None
    (started_next w (with_pc p.value (with_status s (with_sp p.sp w.registers))) n)

abbrev pub resume_after : Work → List ℕ → ℕ → Pulled ℕ → Attempt
resume_after w memory n p = resume_attempt w n (unpacked p.value) (pull_address [] memory p.sp p.bus)

unfoldable pub interrupt_return_tried : Work → List ℕ → ℕ → Attempt
interrupt_return_tried w memory n = resume_after w memory n (pull_of [] memory w.registers.sp unasked)

unfoldable pub register_tried : RegisterOperation → Work → ℕ → ℕ → Attempt
register_tried o w pc n = started_next w (with_register o (with_pc pc w.registers)) n

unfoldable pub flag_tried : FlagOperation → Work → ℕ → ℕ → Attempt
flag_tried o w pc n = started_next w (with_status (with_flag o w.registers.status) (with_pc pc w.registers)) n
