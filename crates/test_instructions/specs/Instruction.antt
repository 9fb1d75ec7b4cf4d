-- One instruction by a run for all its clocks: what a case starts from, and what it has to come to.
use Rattle.std.specs.Prelude.{ℕ, ◌-◌, true, false, List, [], ◌∷◌, None, Option, Some, Ok, Err}
use Rattle.r6501q_state.specs.declared.state.Cpu.{Cpu}
use Rattle.r6501q_state.specs.declared.state.Peripherals.{Peripherals}
use Rattle.r6501q_state.specs.declared.state.State.{State}
use Rattle.r6501q_state.specs.State.{fresh_control, fresh_levels, high_levels, fresh_peripherals, fresh_ports}
use Rattle.r6501q_state.specs.Inputs.{res_high}
use Rattle.serial_transmitter.specs.Transmitter.{idle_transmitter}
use Rattle.serial_receiver.specs.Receiver.{idle_receiver}
use Rattle.cpu_access.specs.declared.stack.Write.{Write}
use Rattle.cpu_access.specs.declared.stack.Writes.{Writes}
use Rattle.cpu_access.specs.Stack.{no_writes, one_write}
use Rattle.leaps.specs.CallLists.{run_of}
use Rattle.leaps.specs.Calls.{call_start}
use Rattle.r6501q_clock.specs.Clock.{Clocked}
use Rattle.r6501q_chip.specs.R6501q.{Handed, Result, machine}

-- fresh but for the registers, with no reset due
abbrev pub prepared : Cpu → State
prepared c = record {
  cpu = c;
  due = record { reset = false; nmi = false };
  peripherals = fresh_peripherals;
  external = fresh_levels;
  last = fresh_levels;
  clock = 0;
}

-- fresh peripherals of which both counters have counted n clocks
abbrev pub counted : ℕ → Peripherals
counted n = record {
  ports = fresh_ports;
  countera = record { count = 0xFFFF - n; latch = 0xFFFF };
  counterb = record { count = 0xFFFF - n; latchb = 0xFFFF; latchc = 0xFFFF; turnc = true };
  control = fresh_control;
  serial = record { sent = 0; received = 0 };
  transmitter = idle_transmitter;
  receiver = idle_receiver;
}

-- n clocks later, when nothing but the registers, the counters and RES has moved
abbrev pub later : ℕ → Cpu → State
later n c = record {
  cpu = c;
  due = record { reset = false; nmi = false };
  peripherals = counted n;
  external = high_levels;
  last = high_levels;
  clock = n;
}

-- the run for n clocks with RES high as its input on clock 1, one free output entry and no halt address
abbrev pub run_alone : Cpu → ℕ → List ℕ → Handed
run_alone c n memory =
    run_of (machine None) n (call_start (prepared c) memory (1 ∷ []) (res_high ∷ []) (0 ∷ []) (0 ∷ []))

-- 01, Run and leaps: "Leaps = event clocks done, plus 1 if the last clock done isn't an event clock": of an instruction
-- the start, and the last clock, which puts the byte that waits (02, U6: "A last clock with a byte waiting is an event
-- clock") or is no event clock
abbrev pub instruction_leaps : ℕ
instruction_leaps = 2

-- the n clocks are done, with no record, and leave these registers
abbrev pub done_with : ℕ → Cpu → Result
done_with n c = record { number = 0; state = later n c; leaps = instruction_leaps; read = 1; written = 0 }

-- what an instruction writes, in order, as its first clock tells: its pushes (02, U6: "Stack pushes remain on the first
-- clock.") or the byte that waits after it
abbrev pub writes_with : Writes → Option Write → Writes
writes_with pushes None = pushes
writes_with pushes (Some w) = one_write w

-- the same by what the first clock comes to; nothing where it stops
abbrev pub writes_in : Clocked → Writes
writes_in (Err stop) = no_writes
writes_in (Ok ended) = writes_with ended.writes ended.state.cpu.waiting
