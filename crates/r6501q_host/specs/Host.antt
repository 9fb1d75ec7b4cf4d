-- What crosses to and from programs in C and Rust: document 01, "Machine state", with each flag and level as a byte.
use Rattle.std.specs.Prelude.{Bool, ◌&&◌, ◌||◌, cond, ℕ, leb, eqb, Option, Ok, Err, Some, None}
use Rattle.page_sums.specs.PageSums.{TotalResult}
use Rattle.bits.specs.Bits.{one_where}
use Rattle.bit_rate.specs.BitRate.{Found, latch_number}
use Rattle.counters.specs.declared.b.CounterB.{CounterB}
use Rattle.cpu_access.specs.declared.stack.Write.{Write}
use Rattle.cpu_access.specs.Stack.{write_at}
use Rattle.serial_receiver.specs.declared.Receiver.{Receiver}
use Rattle.r6501q_state.specs.declared.state.Cpu.{Cpu}
use Rattle.r6501q_state.specs.declared.state.Due.{Due}
use Rattle.r6501q_state.specs.declared.state.Peripherals.{Peripherals}
use Rattle.r6501q_state.specs.declared.state.Levels.{Levels}
use Rattle.r6501q_state.specs.declared.state.State.{State}
use Rattle.r6501q_step.specs.declared.CallResult.{CallResult}
use Rattle.tape.specs.Tapes.{LoadResult}
use Rattle.r6501q_host.specs.declared.HostWaiting.{HostWaiting}
use Rattle.r6501q_host.specs.declared.HostCpu.{HostCpu}
use Rattle.r6501q_host.specs.declared.HostDue.{HostDue}
use Rattle.r6501q_host.specs.declared.HostCounterB.{HostCounterB}
use Rattle.r6501q_host.specs.declared.HostReceiver.{HostReceiver}
use Rattle.r6501q_host.specs.declared.HostPeripherals.{HostPeripherals}
use Rattle.r6501q_host.specs.declared.HostLevels.{HostLevels}
use Rattle.r6501q_host.specs.declared.HostState.{HostState}
use Rattle.r6501q_host.specs.declared.HostResult.{HostResult}
use Rattle.r6501q_host.specs.declared.HostLoadResult.{HostLoadResult}
use Rattle.r6501q_host.specs.declared.HostLatchResult.{HostLatchResult}
use Rattle.r6501q_host.specs.declared.HostTotalResult.{HostTotalResult}

-- ---- from the host: "(yes or no)" is a byte of 1 or 0

abbrev pub flag_of : ℕ → Bool
flag_of b = eqb b 1

unfoldable pub waiting_from_host : HostWaiting → Option Write
waiting_from_host h = cond (flag_of h.there) (Some (write_at h.address h.value)) None

abbrev pub cpu_from_host : HostCpu → Cpu
cpu_from_host h = record {
  a = h.a;
  x = h.x;
  y = h.y;
  sp = h.sp;
  p = h.p;
  pc = h.pc;
  wait = h.wait;
  waiting = waiting_from_host h.waiting;
}

abbrev pub due_from_host : HostDue → Due
due_from_host h = record { reset = flag_of h.reset; nmi = flag_of h.nmi }

abbrev pub counter_b_from_host : HostCounterB → CounterB
counter_b_from_host h = record { count = h.count; latchb = h.latchb; latchc = h.latchc; turnc = flag_of h.turnc }

abbrev pub receiver_from_host : HostReceiver → Receiver
receiver_from_host h = record {
  subinterval = h.subinterval;
  half = flag_of h.half;
  left = h.left;
  register = h.register;
}

abbrev pub levels_from_host : HostLevels → Levels
levels_from_host h = record { ports = h.ports; nmi = flag_of h.nmi; res = flag_of h.res }

abbrev pub peripherals_from_host : HostPeripherals → Peripherals
peripherals_from_host h = record {
  ports = h.ports;
  countera = h.countera;
  counterb = counter_b_from_host h.counterb;
  control = h.control;
  serial = h.serial;
  transmitter = h.transmitter;
  receiver = receiver_from_host h.receiver;
}

unfoldable pub state_from_host : HostState → State
state_from_host h = record {
  cpu = cpu_from_host h.cpu;
  due = due_from_host h.due;
  peripherals = peripherals_from_host h.peripherals;
  external = levels_from_host h.external;
  last = levels_from_host h.last;
  clock = h.clock;
}

-- "Well-formed: every field is within its range here": a flag that crosses as a byte is 0 or 1
abbrev pub is_flag : ℕ → Bool
is_flag b = leb b 1

-- 02, U6: "one byte waiting, with its address, or none": none is one value, 0 in each of the three fields
unfoldable pub waiting_fits : HostWaiting → Bool
waiting_fits h = eqb h.there 1 || (eqb h.there 0 && eqb h.address 0 && eqb h.value 0)

unfoldable pub flags_fit : HostState → Bool
flags_fit h =
    waiting_fits h.cpu.waiting
    && (is_flag h.due.reset && is_flag h.due.nmi)
    && (is_flag h.peripherals.counterb.turnc && is_flag h.peripherals.receiver.half)
    && (is_flag h.external.nmi && is_flag h.external.res)
    && (is_flag h.last.nmi && is_flag h.last.res)

-- 02, U4: "all calls of a list are given the same address, or none": of the host a number, above
-- 65,535 meaning none
unfoldable pub halt_of : ℕ → Option ℕ
halt_of halt = cond (leb halt 65535) (Some halt) None

-- ---- to the host

unfoldable pub host_waiting : Option Write → HostWaiting
host_waiting None = record { there = 0; address = 0; value = 0 }
host_waiting (Some w) = record { there = 1; address = w.address; value = w.value }

abbrev pub host_cpu : Cpu → HostCpu
host_cpu c = record {
  a = c.a;
  x = c.x;
  y = c.y;
  sp = c.sp;
  p = c.p;
  pc = c.pc;
  wait = c.wait;
  waiting = host_waiting c.waiting;
}

abbrev pub host_due : Due → HostDue
host_due d = record { reset = one_where d.reset; nmi = one_where d.nmi }

abbrev pub host_counter_b : CounterB → HostCounterB
host_counter_b c = record { count = c.count; latchb = c.latchb; latchc = c.latchc; turnc = one_where c.turnc }

abbrev pub host_receiver : Receiver → HostReceiver
host_receiver v =
    record { subinterval = v.subinterval; half = one_where v.half; left = v.left; register = v.register }

abbrev pub host_levels : Levels → HostLevels
host_levels l = record { ports = l.ports; nmi = one_where l.nmi; res = one_where l.res }

abbrev pub host_peripherals : Peripherals → HostPeripherals
host_peripherals p = record {
  ports = p.ports;
  countera = p.countera;
  counterb = host_counter_b p.counterb;
  control = p.control;
  serial = p.serial;
  transmitter = p.transmitter;
  receiver = host_receiver p.receiver;
}

unfoldable pub host_state : State → HostState
host_state s = record {
  cpu = host_cpu s.cpu;
  due = host_due s.due;
  peripherals = host_peripherals s.peripherals;
  external = host_levels s.external;
  last = host_levels s.last;
  clock = s.clock;
}

abbrev pub host_result : CallResult → HostResult
host_result t = record {
  number = t.number;
  state = host_state t.state;
  leaps = t.leaps;
  read = t.read;
  written = t.written;
}

abbrev pub host_load_result : LoadResult → HostLoadResult
host_load_result l = record { number = l.number; place = l.place }

-- 02, U7: what the call for the total hands back, as the host's
abbrev pub host_total_result : TotalResult → HostTotalResult
host_total_result t = record { number = t.number; total = t.total }

-- 02, U2: the answer's number, whether a latch value was found, and the value; without one both are 0
abbrev pub host_latch_result : Found → HostLatchResult
host_latch_result (Ok (Some N)) = record { number = latch_number (Ok (Some N)); found = 1; value = N }
host_latch_result (Ok None) = record { number = latch_number (Ok None); found = 0; value = 0 }
host_latch_result (Err refused) = record { number = latch_number (Err refused); found = 0; value = 0 }

-- ---- refusals

-- "1 to 5 give back the state given, everything unchanged"
abbrev pub host_refused : ℕ → HostState → HostResult
host_refused number h = record { number = number; state = h; leaps = 0; read = 0; written = 0 }
