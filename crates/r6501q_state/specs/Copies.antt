-- Records with one part set anew, all others kept: what antt has no shorter way to write. No rule stands here.
use Rattle.cpu_access.specs.declared.stack.Write.{Write}
use Rattle.std.specs.Prelude.{ℕ, Option}
use Rattle.counters.specs.declared.a.CounterA.{CounterA}
use Rattle.counters.specs.declared.b.CounterB.{CounterB}
use Rattle.serial_transmitter.specs.declared.Transmitter.{Transmitter}
use Rattle.serial_receiver.specs.declared.Receiver.{Receiver}
use Rattle.r6501q_state.specs.declared.state.Cpu.{Cpu}
use Rattle.r6501q_state.specs.declared.state.Ports.{Ports}
use Rattle.r6501q_state.specs.declared.state.Control.{Control}
use Rattle.r6501q_state.specs.declared.state.Peripherals.{Peripherals}
use Rattle.r6501q_state.specs.declared.state.State.{State}

-- the clocks to wait, and the byte that waits
abbrev pub waiting_at : Cpu → ℕ → Option Write → Cpu
waiting_at c n w = record { a = c.a; x = c.x; y = c.y; sp = c.sp; p = c.p; pc = c.pc; wait = n; waiting = w }

abbrev pub at_wait : Cpu → ℕ → Cpu
at_wait c n = waiting_at c n c.waiting

abbrev pub with_port_a : Ports → ℕ → Ports
with_port_a p v = record { a = v; b = p.b; c = p.c; d = p.d }

abbrev pub with_ifr : Control → ℕ → Control
with_ifr c v = record { ifr = v; ier = c.ier; mcr = c.mcr; sccr = c.sccr; scsr = c.scsr }

abbrev pub with_scsr : Control → ℕ → Control
with_scsr c v = record { ifr = c.ifr; ier = c.ier; mcr = c.mcr; sccr = c.sccr; scsr = v }

-- one part of what stands behind the registers
abbrev pub with_ports : Peripherals → Ports → Peripherals
with_ports p x = record {
  ports = x;
  countera = p.countera;
  counterb = p.counterb;
  control = p.control;
  serial = p.serial;
  transmitter = p.transmitter;
  receiver = p.receiver;
}

abbrev pub with_counter_a : Peripherals → CounterA → Peripherals
with_counter_a p x = record {
  ports = p.ports;
  countera = x;
  counterb = p.counterb;
  control = p.control;
  serial = p.serial;
  transmitter = p.transmitter;
  receiver = p.receiver;
}

abbrev pub with_counter_b : Peripherals → CounterB → Peripherals
with_counter_b p x = record {
  ports = p.ports;
  countera = p.countera;
  counterb = x;
  control = p.control;
  serial = p.serial;
  transmitter = p.transmitter;
  receiver = p.receiver;
}

abbrev pub with_control : Peripherals → Control → Peripherals
with_control p x = record {
  ports = p.ports;
  countera = p.countera;
  counterb = p.counterb;
  control = x;
  serial = p.serial;
  transmitter = p.transmitter;
  receiver = p.receiver;
}

abbrev pub with_sent : Peripherals → ℕ → Peripherals
with_sent p x = record {
  ports = p.ports;
  countera = p.countera;
  counterb = p.counterb;
  control = p.control;
  serial = record { sent = x; received = p.serial.received };
  transmitter = p.transmitter;
  receiver = p.receiver;
}

abbrev pub with_progress : Peripherals → Transmitter → Receiver → Peripherals
with_progress p t r = record {
  ports = p.ports;
  countera = p.countera;
  counterb = p.counterb;
  control = p.control;
  serial = p.serial;
  transmitter = t;
  receiver = r;
}

-- the interrupt flags, the status register, or port A's latch
abbrev pub flagged : Peripherals → ℕ → Peripherals
flagged p v = with_control p (with_ifr p.control v)

abbrev pub scsr_set : Peripherals → ℕ → Peripherals
scsr_set p v = with_control p (with_scsr p.control v)

abbrev pub latched_a : Peripherals → ℕ → Peripherals
latched_a p v = with_ports p (with_port_a p.ports v)

-- one part of the state
abbrev pub with_peripherals : State → Peripherals → State
with_peripherals s p = record {
  cpu = s.cpu;
  due = s.due;
  peripherals = p;
  external = s.external;
  last = s.last;
  clock = s.clock;
}

abbrev pub with_cpu : State → Cpu → State
with_cpu s c = record {
  cpu = c;
  due = s.due;
  peripherals = s.peripherals;
  external = s.external;
  last = s.last;
  clock = s.clock;
}

abbrev pub with_wait : State → ℕ → State
with_wait s n = with_cpu s (at_wait s.cpu n)
