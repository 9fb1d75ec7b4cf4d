-- One whole instruction and the entries by their accesses, in the order of the Programming Manual's cycles, idle ones
-- left out (01, One clock, 4).
use Rattle.std.specs.Prelude.{Bool, true, false, cond, ℕ, ◌+◌, Option, Some, None}
use Rattle.bits.specs.Bits.{one_where, low_byte, high_byte, word16}
use Rattle.cpu_opcodes.specs.Decode.{decode_of}
use Rattle.cpu_opcodes.specs.declared.Entry.{Entry}
use Rattle.cpu_opcodes.specs.declared.Mode.{Mode}
use Rattle.cpu_opcodes.specs.declared.operation.Operation.{Operation}
use Rattle.cpu_opcodes.specs.declared.operation.Operation.TheVariants as operation
use Rattle.cpu_opcodes.specs.declared.operation.ModifyOperation.{ModifyOperation}
use Rattle.cpu_opcodes.specs.declared.operation.PullOperation.{PullOperation}
use Rattle.cpu_alu.specs.Status.{unpacked, pushed, with_i}
use Rattle.cpu_alu.specs.declared.Computed.{Computed}
use Rattle.cpu_access.specs.declared.stack.Write.{Write}
use Rattle.cpu_access.specs.declared.CpuRegisters.{CpuRegisters}
use Rattle.cpu_access.specs.Bus.{next_address, reset_vector, irq_vector}
use Rattle.cpu_access.specs.Stack.{write_at, stack_address, down, up}
use Rattle.cpu_access.specs.Accesses.{Accesses, ends, ◌>>=◌, ◌>>◌, byte_at, byte_to_modify, address_at, push}
use Rattle.cpu_modes.specs.ModeAccesses.{Located, located, branch_target}
use Rattle.cpu_kinds.specs.Updates.{with_sp, with_pc, with_status, into_a}
use Rattle.cpu_kinds.specs.Kinds.{with_read, changed_by, byte_to_store, branch_taken, bit_branch_taken, byte_to_push}
use Rattle.cpu_kinds.specs.Kinds.{with_pulled, with_register, with_flag}

-- what an instruction or an entry ends with: the registers, the byte of its store, which waits for the last clock, and
-- the clocks that it takes
pub record Conclusion : Type 0 where
  pub registers : CpuRegisters
  pub waiting : Option Write
  pub clocks : ℕ

-- an opcode may be undefined
pub data Ending : Type 0 where
  undefined : Ending
  leaves : Conclusion → Ending

abbrev pub conclusion : CpuRegisters → ℕ → Conclusion
conclusion r n = record { registers = r; waiting = None; clocks = n }

-- ---- by kind; n is the length in the opcode's row, p the operand's place

-- one clock more where indexing crossed a page (001, A.3, *)
unfoldable pub completion : ℕ → Located → CpuRegisters → Accesses Conclusion
completion n p r = ends (conclusion r (n + one_where p.crossed))

unfoldable pub store_at : ℕ → Located → CpuRegisters → ℕ → Accesses Conclusion
store_at n p r v = ends (record { registers = r; waiting = Some (write_at p.address v); clocks = n })

-- a byte that was read and changed goes back to where it came from
abbrev pub store_back : ℕ → Located → CpuRegisters → Computed → Accesses Conclusion
store_back n p r k = store_at n p (with_status k.status r) k.value

-- A, or a byte that is read once, from a port's latch (001, 4.1), and stored once
unfoldable pub modify_accesses : ModifyOperation → ℕ → Located → CpuRegisters → Accesses Conclusion
modify_accesses o n p r =
    cond p.accumulator (ends (conclusion (into_a (changed_by o r.a r.status) r) n)) (do
      v ← byte_to_modify p.address
      store_back n p r (changed_by o v r.status))

-- one clock more where a branch is taken, two where its target lies in another page (001, A.3, **)
unfoldable pub branch_on : ℕ → Located → CpuRegisters → Bool → Accesses Conclusion
branch_on n p r taken =
    ends (cond taken (conclusion (with_pc p.address r) (n + 1 + one_where p.crossed)) (conclusion r n))

-- BBR and BBS: the offset is read after the tested byte, whether or not the branch is taken
unfoldable pub bit_branch_accesses : ℕ → CpuRegisters → Bool → Accesses Conclusion
bit_branch_accesses n r taken = do
  offset ← byte_at r.pc
  branch_on n (branch_target offset (next_address r.pc)) (with_pc (next_address r.pc) r) taken

unfoldable pub jump_to : ℕ → Located → CpuRegisters → Accesses Conclusion
jump_to n p r = ends (conclusion (with_pc p.address r) n)

-- PHA and PHP: a push writes at SP, and SP goes down
unfoldable pub push_accesses : ℕ → CpuRegisters → ℕ → Accesses Conclusion
push_accesses n r v = do
  push r.sp v
  ends (conclusion (with_sp (down r.sp) r) n)

-- PLA and PLP: SP goes up, and the pull reads there
unfoldable pub pull_accesses : PullOperation → ℕ → CpuRegisters → Accesses Conclusion
pull_accesses o n r = do
  v ← byte_at (stack_address (up r.sp))
  ends (conclusion (with_pulled o (with_sp (up r.sp) r) v) n)

-- RTS: PC is what is pulled, low byte first, plus 1
unfoldable pub return_accesses : ℕ → CpuRegisters → Accesses Conclusion
return_accesses n r = do
  pc ← address_at (stack_address (up r.sp)) (stack_address (up (up r.sp)))
  ends (conclusion (with_pc (next_address pc) (with_sp (up (up r.sp)) r)) n)

-- RTI: the status is pulled, then PC
unfoldable pub interrupt_return_accesses : ℕ → CpuRegisters → Accesses Conclusion
interrupt_return_accesses n r = do
  v ← byte_at (stack_address (up r.sp))
  pc ← address_at (stack_address (up (up r.sp))) (stack_address (up (up (up r.sp))))
  ends (conclusion (with_pc pc (with_status (unpacked v) (with_sp (up (up (up r.sp))) r))) n)

-- 01, One clock, 4: "An entry .. sets I; NMI and IRQ push PC high, PC low, P", "each 7 clocks"; p is P as it is pushed.
-- Then the vector is read, low byte first.
unfoldable pub entry_accesses : ℕ → ℕ → CpuRegisters → Accesses Conclusion
entry_accesses vector p r = do
  push r.sp (high_byte r.pc)
  push (down r.sp) (low_byte r.pc)
  push (down (down r.sp)) p
  pc ← address_at vector (next_address vector)
  ends (conclusion (with_pc pc (with_status (with_i true r.status) (with_sp (down (down (down r.sp))) r))) 7)

-- BRK: PC + 2 is pushed, PC being that of the opcode, behind which r's stands; bits 4 and 5 are set in the byte
unfoldable pub break_accesses : CpuRegisters → Accesses Conclusion
break_accesses r = entry_accesses irq_vector (pushed r.status true) (with_pc (next_address r.pc) r)

-- JSR: the low byte of the target is read, the address of its own last byte is pushed, and only then the high byte is
-- read
unfoldable pub jsr_accesses : ℕ → CpuRegisters → Accesses Conclusion
jsr_accesses n r = do
  l ← byte_at r.pc
  push r.sp (high_byte (next_address r.pc))
  push (down r.sp) (low_byte (next_address r.pc))
  h ← byte_at (next_address r.pc)
  ends (conclusion (with_pc (word16 h l) (with_sp (down (down r.sp)) r)) n)

-- ---- the instruction

-- PC behind the operand bytes
abbrev pub past_operand : Located → CpuRegisters → CpuRegisters
past_operand p r = with_pc p.pc r

-- the operand's place, its byte where one is read, and what is done with it (001, appendix A); r's PC stands behind the
-- opcode
unfoldable pub operation_accesses : Operation → Mode → ℕ → CpuRegisters → Accesses Conclusion
operation_accesses (operation.Read o) mode n r = do
  p ← located mode r
  v ← byte_at p.address
  completion n p (with_read o (past_operand p r) v)
operation_accesses (operation.Modify o) mode n r = do
  p ← located mode r
  modify_accesses o n p (past_operand p r)
operation_accesses (operation.Store o) mode n r = do
  p ← located mode r
  store_at n p (past_operand p r) (byte_to_store o (past_operand p r))
operation_accesses (operation.Branch o) mode n r = do
  p ← located mode r
  branch_on n p (past_operand p r) (branch_taken o r.status)
operation_accesses (operation.BitBranch o) mode n r = do
  p ← located mode r
  v ← byte_at p.address
  bit_branch_accesses n (past_operand p r) (bit_branch_taken o v)
operation_accesses (operation.Push o) mode n r = do
  p ← located mode r
  push_accesses n (past_operand p r) (byte_to_push o (past_operand p r))
operation_accesses (operation.Pull o) mode n r = do
  p ← located mode r
  pull_accesses o n (past_operand p r)
operation_accesses (operation.Register o) mode n r = do
  p ← located mode r
  completion n p (with_register o (past_operand p r))
operation_accesses (operation.Flag o) mode n r = do
  p ← located mode r
  completion n p (with_status (with_flag o r.status) (past_operand p r))
operation_accesses operation.Brk mode n r = do
  p ← located mode r
  break_accesses (past_operand p r)
operation_accesses operation.Jmp mode n r = do
  p ← located mode r
  jump_to n p (past_operand p r)
operation_accesses operation.Jsr mode n r = jsr_accesses n r
operation_accesses operation.Nop mode n r = do
  p ← located mode r
  completion n p (past_operand p r)
operation_accesses operation.Rti mode n r = do
  p ← located mode r
  interrupt_return_accesses n (past_operand p r)
operation_accesses operation.Rts mode n r = do
  p ← located mode r
  return_accesses n (past_operand p r)

abbrev pub opcode_accesses : CpuRegisters → Option Entry → Accesses Ending
opcode_accesses r None = ends undefined
opcode_accesses r (Some e) = do
  l ← operation_accesses e.operation e.mode e.length r
  ends (leaves l)

unfoldable pub instruction_accesses : CpuRegisters → Accesses Ending
instruction_accesses r = do
  opcode ← byte_at r.pc
  opcode_accesses (with_pc (next_address r.pc) r) (decode_of opcode)

-- ---- the entries

-- "reset pushes nothing and keeps SP"
unfoldable pub reset_accesses : CpuRegisters → Accesses Conclusion
reset_accesses r = do
  pc ← address_at reset_vector (next_address reset_vector)
  ends (conclusion (with_pc pc (with_status (with_i true r.status) r)) 7)

-- NMI and IRQ: 01, Machine state, "a push sets bit 5 in the byte", and not bit 4
unfoldable pub interrupt_accesses : ℕ → CpuRegisters → Accesses Conclusion
interrupt_accesses vector r = entry_accesses vector (pushed r.status false) r
