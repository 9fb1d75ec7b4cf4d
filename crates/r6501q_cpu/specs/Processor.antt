-- Document 01, "One clock", 4: the CPU, on the state that steps 1 to 3 leave.
use Rattle.std.specs.Prelude.{Bool, false, ◌&&◌, not, cond, List, [], ℕ, ◌-◌, ltb, eqb, None, Option, Some, Result, Ok, Err}
use Rattle.bits.specs.Bits.{bit}
use Rattle.stops.specs.declared.Stop.{Stop}
use Rattle.stops.specs.declared.Stop.TheVariants.{Undefined}
use Rattle.cpu_alu.specs.Status.{packed, unpacked}
use Rattle.r6501q_state.specs.declared.state.Cpu.{Cpu}
use Rattle.r6501q_state.specs.declared.state.Due.{Due}
use Rattle.r6501q_state.specs.declared.state.Peripherals.{Peripherals}
use Rattle.r6501q_state.specs.declared.state.State.{State}
use Rattle.r6501q_state.specs.Copies.{waiting_at, with_wait}
use Rattle.r6501q_state.specs.Control.{pending}
use Rattle.r6501q_registers.specs.Read.{register_value, after_read}
use Rattle.r6501q_registers.specs.Write.{write_of}
use Rattle.cpu_access.specs.declared.CpuRegisters.{CpuRegisters}
use Rattle.cpu_access.specs.declared.stack.Write.{Write}
use Rattle.cpu_access.specs.Bus.{memory_byte, nmi_vector, irq_vector}
use Rattle.memory.specs.Memory.{is_register}
use Rattle.cpu_access.specs.Stack.{no_writes, one_write}
use Rattle.cpu_access.specs.Accesses.{Accesses, RegisterFile, Performed, peripherals_written, performed, in_order}
use Rattle.cpu.specs.InstructionAccesses.{Conclusion, Ending, undefined, leaves, instruction_accesses}
use Rattle.cpu.specs.InstructionAccesses.{reset_accesses}
use Rattle.cpu.specs.InstructionAccesses.{interrupt_accesses}
use Rattle.r6501q_cpu.specs.declared.Next.{Next}

-- the CPU's registers as the instruction has them: P as its flags
abbrev pub registers_of : Cpu → CpuRegisters
registers_of c = record { a = c.a; x = c.x; y = c.y; sp = c.sp; pc = c.pc; status = unpacked c.p }

-- and back, with the clocks still to wait, and the byte that waits
abbrev pub cpu_of : CpuRegisters → ℕ → Option Write → Cpu
cpu_of r wait waiting =
    record {
      a = r.a;
      x = r.x;
      y = r.y;
      sp = r.sp;
      p = packed r.status;
      pc = r.pc;
      wait = wait;
      waiting = waiting;
    }

-- the register file, with step 1's levels
abbrev pub register_file : ℕ → RegisterFile Peripherals
register_file levels = record {
  value = λ (p : Peripherals) (modify : Bool) (a : ℕ). register_value p levels modify a;
  after_read = after_read;
  after_write = write_of;
}

-- what the CPU's part of a clock comes to: the state after it, or a stop
abbrev pub Processed : Type 0
Processed = Result Next Stop

-- ---- the first clock

-- "All its reads and writes happen now, each once": the reads, and the pushes (02, U6: "Stack pushes remain on the
-- first clock.")
abbrev pub performed_in : {A : Type 0} → State → List ℕ → Accesses A → Performed Peripherals A
performed_in s memory t = performed (register_file s.last.ports) memory s.peripherals [] t

-- the state after the first clock of an entry or an instruction, and its pushes; "Wait becomes the length minus 1.";
-- 02, U6: "The state then holds one byte waiting, with its address, or none."
abbrev pub next_after : State → Due → Performed Peripherals Conclusion → Next
next_after s due x = record {
  state = record {
    cpu = cpu_of x.end.registers (x.end.clocks - 1) x.end.waiting;
    due = due;
    peripherals = x.peripherals;
    external = s.external;
    last = s.last;
    clock = s.clock;
  };
  writes = in_order x.writes;
}

abbrev pub processed_by : State → Peripherals → List Write → Ending → Processed
processed_by s p pushes undefined = Err Undefined
processed_by s p pushes (leaves l) = Ok (next_after s s.due (record { end = l; peripherals = p; writes = pushes }))

abbrev pub processed_after : State → Performed Peripherals Ending → Processed
processed_after s x = processed_by s x.peripherals x.writes x.end

-- "one whole instruction"
unfoldable pub whole_instruction : State → List ℕ → Processed
whole_instruction s memory = processed_after s (performed_in s memory (instruction_accesses (registers_of s.cpu)))

-- The opcode is the byte at PC: a register's, a port's by step 1's levels, or the memory's. The instruction is
-- undefined just where this opcode is (`undefined_opcode`, `defined_opcode` of `r6501q_cpu/proofs/Undefined.antt`).
unfoldable pub opcode_at : State → List ℕ → ℕ
opcode_at s memory =
    cond (is_register s.cpu.pc) (register_value s.peripherals s.last.ports false s.cpu.pc)
    (memory_byte memory s.cpu.pc)

-- "IRQ (I clear, IFR AND IER nonzero)"
unfoldable pub irq_due : State → Bool
irq_due s = not (bit 2 s.cpu.p) && pending s.peripherals.control

-- "An entry clears its due mark"
unfoldable pub reset_start : State → List ℕ → Next
reset_start s memory =
    next_after s (record { reset = false; nmi = s.due.nmi })
    (performed_in s memory (reset_accesses (registers_of s.cpu)))

unfoldable pub nmi_start : State → List ℕ → Next
nmi_start s memory =
    next_after s (record { reset = s.due.reset; nmi = false })
    (performed_in s memory (interrupt_accesses nmi_vector (registers_of s.cpu)))

unfoldable pub irq_start : State → List ℕ → Next
irq_start s memory = next_after s s.due (performed_in s memory (interrupt_accesses irq_vector (registers_of s.cpu)))

-- "Otherwise start: reset, then NMI, then IRQ ..; else one whole instruction."
unfoldable pub start_of : State → List ℕ → Processed
start_of s memory =
    cond s.due.reset (Ok (reset_start s memory))
    (cond s.due.nmi (Ok (nmi_start s memory))
    (cond (irq_due s) (Ok (irq_start s memory)) (whole_instruction s memory)))

-- nothing is written
abbrev pub without_writes : State → Processed
without_writes s = Ok (record { state = s; writes = no_writes })

-- ---- the clocks after the first

-- "With wait above 0: wait minus 1."
abbrev pub wait_less : State → Processed
wait_less s = without_writes (with_wait s (s.cpu.wait - 1))

-- 02, U6: "Let a store or a read-modify-write put its byte on its last clock, after counters and serial."
unfoldable pub byte_put : State → Write → Next
byte_put s w = record {
  state = record {
    cpu = waiting_at s.cpu 0 None;
    due = s.due;
    peripherals = peripherals_written (register_file s.last.ports) s.peripherals w.address w.value;
    external = s.external;
    last = s.last;
    clock = s.clock;
  };
  writes = one_write w;
}

-- the last clock is that with wait 1
abbrev pub waited_by : State → Option Write → Processed
waited_by s None = wait_less s
waited_by s (Some w) = cond (eqb s.cpu.wait 1) (Ok (byte_put s w)) (wait_less s)

-- ---- step 4

-- "CPU, if RES is high. With wait above 0: wait minus 1." "Otherwise start"
unfoldable pub processor_of : State → List ℕ → Processed
processor_of s memory =
    cond s.last.res
    (cond (ltb 0 s.cpu.wait) (waited_by s s.cpu.waiting) (start_of s memory))
    (without_writes s)
