-- What an instruction leaves, by kind: the registers, what it writes, and the clocks that it takes.
use Rattle.std.specs.Prelude.{Bool, true, false, cond, List, ℕ, ◌+◌, None, Option, Some}
use Rattle.bits.specs.Bits.{one_where}
use Rattle.cpu_opcodes.specs.declared.operation.PullOperation.{PullOperation}
use Rattle.cpu_alu.specs.Status.{unpacked, pushed, with_i}
use Rattle.cpu_alu.specs.declared.Status.{Status}
use Rattle.cpu_alu.specs.declared.Computed.{Computed}
use Rattle.cpu_access.specs.declared.stack.Write.{Write}
use Rattle.cpu_access.specs.declared.Bus.{Bus}
use Rattle.cpu_access.specs.declared.CpuRegisters.{CpuRegisters}
use Rattle.cpu_modes.specs.declared.Place.{Place}
use Rattle.cpu_access.specs.declared.stack.Writes.{Writes}
use Rattle.cpu_access.specs.declared.stack.Pulled.{Pulled}
use Rattle.cpu_access.specs.Bus.{irq_vector, next_address, vector_of, fetch_of}
use Rattle.cpu_access.specs.Stack.{write_at, no_writes, one_write, down, push_at, push_interrupt, pull_of, pull_address}
use Rattle.cpu_modes.specs.Modes.{relative_to}
use Rattle.cpu_effects.specs.declared.Worked.{Worked}
use Rattle.cpu_effects.specs.declared.Writing.{Writing}
use Rattle.cpu_effects.specs.declared.Writing.TheVariants.{Nothing, Pushed, Stored}
use Rattle.cpu_effects.specs.Operand.{Operand}
use Rattle.cpu_effects.specs.declared.Executed.{Executed}
-- with what is left go the registers set anew
pub use Rattle.cpu_kinds.specs.Updates.{with_sp, with_pc, with_status, into_a, into_x, into_y, load_a, load_x, load_y}
use Rattle.cpu_kinds.specs.Kinds.{with_pulled}

-- what is written on the first clock, in order: the pushes
unfoldable pub pushes_of : Writing → Writes
pushes_of Nothing = no_writes
pushes_of (Pushed w) = w
pushes_of (Stored x) = no_writes

-- what waits for the last clock: the store
unfoldable pub waiting_of : Writing → Option Write
waiting_of Nothing = None
waiting_of (Pushed w) = None
waiting_of (Stored x) = Some x

abbrev pub executed : CpuRegisters → Writing → ℕ → Bus → Executed
executed r w n b = record { worked = record { registers = r; writing = w; length = n }; bus = b }

-- nothing is written
abbrev pub read_only : CpuRegisters → ℕ → Bus → Executed
read_only r n b = executed r Nothing n b

-- a byte was read, or none: one clock more where indexing crossed a page (001, A.3, *)
unfoldable pub completed : Operand → CpuRegisters → Executed
completed o r = read_only r (o.length + one_where o.crossed) o.bus

-- the byte v is stored at the operand's address
unfoldable pub stored : Operand → CpuRegisters → ℕ → Executed
stored o r v = executed r (Stored (write_at o.address v)) o.length o.bus

-- a byte that was read and changed goes back to where it came from
unfoldable pub modified : Operand → CpuRegisters → Computed → Executed
modified o r k =
    cond o.accumulator (read_only (into_a k r) o.length o.bus) (stored o (with_status k.status r) k.value)

-- one clock more where a branch is taken, two where its target lies in another page (001, A.3, **)
unfoldable pub branched : Operand → CpuRegisters → Bool → Executed
branched o r taken =
    cond taken (read_only (with_pc o.address r) (o.length + 1 + one_where o.crossed) o.bus)
    (read_only r o.length o.bus)

-- BBR and BBS: the offset is fetched after the tested byte, whether or not the branch is taken
abbrev pub branch_operand : Operand → Place → Operand
branch_operand o p = record {
  address = p.address;
  value = o.value;
  crossed = p.crossed;
  accumulator = false;
  length = o.length;
  bus = p.bus;
}

abbrev pub bit_branched_to : Operand → CpuRegisters → Bool → Place → Executed
bit_branched_to o r taken p = branched (branch_operand o p) (with_pc p.pc r) taken

unfoldable pub bit_branched : List ℕ → List ℕ → Operand → CpuRegisters → Bool → Executed
bit_branched answers memory o r taken = bit_branched_to o r taken (relative_to (fetch_of answers memory r.pc o.bus))

unfoldable pub jumped : Operand → CpuRegisters → Executed
jumped o r = read_only (with_pc o.address r) o.length o.bus

-- PHA and PHP: a push writes at SP, and SP goes down
unfoldable pub pushed_byte : Operand → CpuRegisters → ℕ → Executed
pushed_byte o r v = executed (with_sp (down r.sp) r) (Pushed (one_write (push_at r.sp v))) o.length o.bus

-- PLA and PLP: SP goes up, and the byte there is pulled
abbrev pub pulled_to : PullOperation → Operand → CpuRegisters → Pulled ℕ → Executed
pulled_to operation o r p = read_only (with_pulled operation (with_sp p.sp r) p.value) o.length p.bus

unfoldable pub pulled_byte : List ℕ → List ℕ → PullOperation → Operand → CpuRegisters → Executed
pulled_byte answers memory operation o r = pulled_to operation o r (pull_of answers memory r.sp o.bus)

-- RTS: PC is what was pulled, plus 1
abbrev pub return_to : Operand → CpuRegisters → Pulled ℕ → Executed
return_to o r w = read_only (with_pc (next_address w.value) (with_sp w.sp r)) o.length w.bus

unfoldable pub returned : List ℕ → List ℕ → Operand → CpuRegisters → Executed
returned answers memory o r = return_to o r (pull_address answers memory r.sp o.bus)

-- RTI: the status is pulled, then PC
abbrev pub resume_at : Operand → CpuRegisters → Status → Pulled ℕ → Executed
resume_at o r s w = read_only (with_pc w.value (with_status s (with_sp w.sp r))) o.length w.bus

abbrev pub resume_with : List ℕ → List ℕ → Operand → CpuRegisters → Pulled ℕ → Executed
resume_with answers memory o r p = resume_at o r (unpacked p.value) (pull_address answers memory p.sp p.bus)

unfoldable pub returned_from_interrupt : List ℕ → List ℕ → Operand → CpuRegisters → Executed
returned_from_interrupt answers memory o r = resume_with answers memory o r (pull_of answers memory r.sp o.bus)

-- 01, One clock, 4: "An entry .. sets I; NMI and IRQ push PC high, PC low, P", "each 7 clocks"; p is P as it is pushed
unfoldable pub interrupted : List ℕ → ℕ → ℕ → CpuRegisters → Worked
interrupted memory vector p r = record {
  registers = record {
    a = r.a;
    x = r.x;
    y = r.y;
    sp = down (down (down r.sp));
    pc = vector_of memory vector;
    status = with_i true r.status;
  };
  writing = Pushed (push_interrupt r.sp r.pc p);
  length = 7;
}

-- BRK: PC + 2 is pushed, PC being that of the opcode, behind which r's stands; bits 4 and 5 are set in the byte
unfoldable pub break_taken : List ℕ → Operand → CpuRegisters → Executed
break_taken memory o r = record {
  worked = interrupted memory irq_vector (pushed r.status true) (with_pc (next_address r.pc) r);
  bus = o.bus;
}
