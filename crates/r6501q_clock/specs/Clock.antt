-- Document 01, "One clock, in this order": steps 1 to 5. What a clock comes to is decided before anything is written.
use Rattle.std.specs.Prelude.{Option, is_some, Result, Ok, Err, Bool, ◌&&◌, not, cond, List, [], ◌∷◌, ℕ, ◌+◌, eqb}
use Rattle.bits.specs.Bits.{bit, set_where, flip_where}
use Rattle.std.specs.Bool.{then_some}
use Rattle.stops.specs.declared.Stop.{Stop}
use Rattle.stops.specs.declared.Stop.TheVariants.{Full, Halted}
use Rattle.stops.specs.Stops.{stop_number}
use Rattle.counters.specs.declared.time.Ticks.{Ticks}
use Rattle.counters.specs.Counters.{CountedA, CountedB, clock_a, clock_b, toggles, ticks_of}
use Rattle.serial_transmitter.specs.Transmitter.{transmitter_clock}
use Rattle.serial_receiver.specs.Receiver.{receiver_clock}
use Rattle.r6501q_state.specs.declared.state.Peripherals.{Peripherals}
use Rattle.r6501q_state.specs.declared.state.Levels.{Levels}
use Rattle.r6501q_state.specs.declared.state.State.{State}
use Rattle.r6501q_state.specs.Copies.{with_counter_a, with_counter_b, flagged, latched_a, with_peripherals}
use Rattle.r6501q_state.specs.Inputs.{with_input}
use Rattle.r6501q_state.specs.Control.{mode_a, mode_b}
use Rattle.r6501q_state.specs.Pins.{driven_word, rose, sensed}
use Rattle.r6501q_cpu.specs.declared.Next.{Next}
use Rattle.r6501q_cpu.specs.Processor.{Processed, processor_of}
use Rattle.r6501q_clock.specs.Copies.{with_external, after_sending, after_receiving}
use Rattle.r6501q_clock.specs.declared.Counted.{Counted}
use Rattle.r6501q_clock.specs.declared.Ended.{Ended}

-- step 1: "inputs of that clock set external levels", in the order of the list
unfoldable pub with_inputs : Levels → List ℕ → Levels
with_inputs l [] = l
with_inputs l (code ∷ codes) = with_inputs (with_input l code) codes

-- "Clock plus 1; inputs of that clock set external levels."
abbrev pub inputs_set : State → List ℕ → State
inputs_set s codes = with_external s (s.clock + 1) (with_inputs s.external codes)

-- step 2, A: an underflow sets IFR4, and in mode 01 inverts PA4's latch; it is the clock's tick
abbrev pub after_a : Peripherals → ℕ → CountedA → Counted
after_a p mode a = record {
  peripherals =
      latched_a (flagged (with_counter_a p a.counter) (set_where 4 a.underflow p.control.ifr))
      (flip_where 4 (toggles mode a.underflow) p.ports.a);
  ticks = ticks_of a.underflow;
}

-- counter A by its mode in force and PA4, between the levels before step 1 and those after it
unfoldable pub count_a : Peripherals → ℕ → ℕ → Counted
count_a p before now =
    after_a p (mode_a p.control.mcr p.control.sccr)
    (clock_a p.countera (mode_a p.control.mcr p.control.sccr) (rose 4 before now) (not (bit 4 now)))

-- step 2, B: an underflow sets IFR5, and in mode 01 inverts PA5's latch
abbrev pub after_b : Peripherals → ℕ → CountedB → Peripherals
after_b p mode b =
    latched_a (flagged (with_counter_b p b.counter) (set_where 5 b.underflow p.control.ifr))
    (flip_where 5 (toggles mode b.underflow) p.ports.a)

unfoldable pub count_b : Peripherals → ℕ → ℕ → Peripherals
count_b p before now =
    after_b p (mode_b p.control.mcr) (clock_b p.counterb (mode_b p.control.mcr) (rose 5 before now))

-- step 3: the transmitter, then the receiver, which goes by PA7's level and a rise of PA4 in step 1
unfoldable pub sent_by : Peripherals → Ticks → Peripherals
sent_by p ticks =
    after_sending p (transmitter_clock p.transmitter ticks p.control.sccr p.control.scsr p.serial.sent)

unfoldable pub heard_by : Peripherals → Ticks → ℕ → ℕ → Peripherals
heard_by p ticks before now =
    after_receiving p
    (receiver_clock p.receiver ticks (rose 4 before now) p.control.sccr p.control.scsr p.serial.received
    (bit 7 now))

-- "Counter A, then B."; "Serial, at each underflow of A; that is a tick."
abbrev pub after_count_a : Counted → ℕ → ℕ → Peripherals
after_count_a c before now = heard_by (sent_by (count_b c.peripherals before now) c.ticks) c.ticks before now

unfoldable pub peripherals_clock : Peripherals → ℕ → ℕ → Peripherals
peripherals_clock p before now = after_count_a (count_a p before now) before now

-- steps 2 and 3 of a state that has sensed its pins; `before` are the port levels before step 1
abbrev pub with_peripherals_clock : ℕ → State → State
with_peripherals_clock before s = with_peripherals s (peripherals_clock s.peripherals before s.last.ports)

-- steps 1 to 3, given the codes of this clock's inputs
unfoldable pub before_cpu : State → List ℕ → State
before_cpu s codes = with_peripherals_clock s.last.ports (sensed (inputs_set s codes))

-- 02, U4: "12: halted at a write"
abbrev pub halt_stop : ℕ
halt_stop = stop_number Halted

-- what a clock comes to: its end, or a stop
abbrev pub Clocked : Type 0
Clocked = Result Ended Stop

abbrev pub ended_with : Next → Option ℕ → Ended
ended_with next word = record { state = next.state; writes = next.writes; output = word }

-- "One record follows each clock after which the word differs": needed, and none free, is a stop
unfoldable pub finished : Next → Option ℕ → Bool → Clocked
finished next word free = cond (is_some word && not free) (Err Full) (Ok (ended_with next word))

-- step 5 behind step 4, where the word before this clock was `before`
abbrev pub compared_with : ℕ → Bool → Next → ℕ → Clocked
compared_with before free next word = finished next (then_some (not (eqb word before)) word) free

-- "6 before 7": the CPU's one stop is that of an undefined opcode (`processed_by`)
abbrev pub recorded : ℕ → Bool → Processed → Clocked
recorded before free (Err stop) = Err stop
recorded before free (Ok next) = compared_with before free next (driven_word next.state.peripherals)

-- 01, One clock, 1 to 5, given the codes of this clock's inputs and whether an output entry is free
unfoldable pub clock_of : State → List ℕ → List ℕ → Bool → Clocked
clock_of s codes memory free = recorded (driven_word s.peripherals) free (processor_of (before_cpu s codes) memory)
