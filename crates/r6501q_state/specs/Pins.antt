-- Document 01, "Pin lists" (the driven word) and "One clock", 1.
use Rattle.std.specs.Prelude.{Bool, true, false, ◌&&◌, ◌||◌, not, cond, ℕ, ◌+◌, ◌*◌, None}
use Rattle.std.specs.Int.Bits.{bit_and}
use Rattle.bits.specs.Bits.{bit, with_bit, set_where}
use Rattle.serial_transmitter.specs.declared.Transmitter.{Transmitter}
use Rattle.serial_format.specs.Format.{transmitter_shifts}
use Rattle.serial_transmitter.specs.Transmitter.{line, shift_clock, idle_transmitter}
use Rattle.serial_receiver.specs.Receiver.{idle_receiver}
use Rattle.r6501q_state.specs.declared.state.Due.{Due}
use Rattle.r6501q_state.specs.declared.state.Peripherals.{Peripherals}
use Rattle.r6501q_state.specs.declared.state.Levels.{Levels}
use Rattle.r6501q_state.specs.declared.state.State.{State}
use Rattle.r6501q_state.specs.State.{fresh_ports, fresh_control}
use Rattle.r6501q_state.specs.Copies.{waiting_at, flagged}

-- 02, U1, of a transmitter in shift-register mode: "PA4's drive is its clock"
abbrev pub with_shift_clock : ℕ → Transmitter → ℕ → ℕ
with_shift_clock sccr t a = cond (transmitter_shifts sccr) (with_bit 4 (shift_clock t) a) a

-- "A pin's drive .. is its port latch; but PA6 is the transmitter's line .. while SCCR7 is set"
unfoldable pub drive_a : Peripherals → ℕ
drive_a p =
    cond (bit 7 p.control.sccr)
    (with_shift_clock p.control.sccr p.transmitter (with_bit 6 (line p.transmitter) p.ports.a)) p.ports.a

-- "and port D counts as FFh while MCR makes it an input"; Registers, "MCR5: port D output"
unfoldable pub drive_d : Peripherals → ℕ
drive_d p = cond (bit 5 p.control.mcr) p.ports.d 0xFF

-- four ports as a word, "PA0 in bit 0, PD7 in bit 31"
abbrev pub word_of : ℕ → ℕ → ℕ → ℕ → ℕ
word_of a b c d = a + b * 0x100 + c * 0x10000 + d * 0x1000000

-- the driven word, of which "one record follows each clock after which the word differs"
unfoldable pub driven_word : Peripherals → ℕ
driven_word p = word_of (drive_a p) p.ports.b p.ports.c (drive_d p)

-- "A port pin's level is its drive AND its external level."
unfoldable pub levels_of : State → Levels
levels_of s = record {
  ports = bit_and (driven_word s.peripherals) s.external.ports;
  nmi = s.external.nmi;
  res = s.external.res;
}

-- a rise and a fall of a port pin between two words of levels
unfoldable pub rose : ℕ → ℕ → ℕ → Bool
rose pin before after = not (bit pin before) && bit pin after

unfoldable pub fell : ℕ → ℕ → ℕ → Bool
fell pin before after = bit pin before && not (bit pin after)

-- "rise on PA0, PA1 sets IFR0, IFR1; fall on PA2, PA3 sets IFR2, IFR3"
unfoldable pub edges : ℕ → ℕ → ℕ → ℕ
edges ifr before after =
    set_where 3 (fell 3 before after) (set_where 2 (fell 2 before after)
    (set_where 1 (rose 1 before after) (set_where 0 (rose 0 before after) ifr)))

-- "fall on NMI sets NMI due"
abbrev pub nmi_due : Due → Levels → Levels → Due
nmi_due due before after = record { reset = due.reset; nmi = due.nmi || (before.nmi && not after.nmi) }

-- the edges recorded; "Last levels become these levels."
unfoldable pub with_edges : State → Levels → State
with_edges s now = record {
  cpu = s.cpu;
  due = nmi_due s.due s.last now;
  peripherals = flagged s.peripherals (edges s.peripherals.control.ifr s.last.ports now.ports);
  external = s.external;
  last = now;
  clock = s.clock;
}

-- "the fresh values of port latches, MCR, SCCR, SCSR, IER, IFR and serial progress"
abbrev pub reset_peripherals : Peripherals → Peripherals
reset_peripherals p = record {
  ports = fresh_ports;
  countera = p.countera;
  counterb = p.counterb;
  control = fresh_control;
  serial = p.serial;
  transmitter = idle_transmitter;
  receiver = idle_receiver;
}

-- "RES low puts the fresh values ..., drops NMI due, sets wait to 0 and makes reset due."; 02, U6: "RES low drops a
-- waiting byte."
unfoldable pub reset_of : State → State
reset_of s = record {
  cpu = waiting_at s.cpu 0 None;
  due = record { reset = true; nmi = false };
  peripherals = reset_peripherals s.peripherals;
  external = s.external;
  last = s.last;
  clock = s.clock;
}

-- "Compared with last levels: .. Then RES low puts .."
unfoldable pub sensed_at : State → Levels → State
sensed_at s now = cond now.res (with_edges s now) (reset_of (with_edges s now))

-- step 1 once "Clock plus 1" is done and the inputs have set the external levels
unfoldable pub sensed : State → State
sensed s = sensed_at s (levels_of s)
