-- Document 01, "Machine state".
use Rattle.std.specs.Prelude.{Bool, true, false, ◌&&◌, not, ◌/◌, ◌%◌, leb, ltb, eqb, None}
use Rattle.cpu_access.specs.Waiting.{byte_waits}
use Rattle.serial_transmitter.specs.Transmitter.{idle_transmitter, transmitter_fits}
use Rattle.serial_receiver.specs.Receiver.{idle_receiver, receiver_fits}
use Rattle.r6501q_state.specs.declared.state.Cpu.{Cpu}
use Rattle.r6501q_state.specs.declared.state.Due.{Due}
use Rattle.r6501q_state.specs.declared.state.Ports.{Ports}
use Rattle.r6501q_state.specs.declared.state.Control.{Control}
use Rattle.r6501q_state.specs.declared.state.Peripherals.{Peripherals}
use Rattle.r6501q_state.specs.declared.state.Levels.{Levels}
use Rattle.r6501q_state.specs.declared.state.State.{State}

-- "Fresh: A, X, Y, PC, wait 0; SP FFh; P with I set alone"; no byte waits (02, U6)
abbrev pub fresh_cpu : Cpu
fresh_cpu = record { a = 0; x = 0; y = 0; sp = 0xFF; p = 0x04; pc = 0; wait = 0; waiting = None }

-- "reset due, NMI not"
abbrev pub fresh_due : Due
fresh_due = record { reset = true; nmi = false }

-- "ports FFh"
abbrev pub fresh_ports : Ports
fresh_ports = record { a = 0xFF; b = 0xFF; c = 0xFF; d = 0xFF }

-- "registers .. 0 but SCSR 40h"
abbrev pub fresh_control : Control
fresh_control = record { ifr = 0; ier = 0; mcr = 0; sccr = 0; scsr = 0x40 }

-- "counters, latches FFFFh; .. turn C; .. serial data and progress 0"
abbrev pub fresh_peripherals : Peripherals
fresh_peripherals = record {
  ports = fresh_ports;
  countera = record { count = 0xFFFF; latch = 0xFFFF };
  counterb = record { count = 0xFFFF; latchb = 0xFFFF; latchc = 0xFFFF; turnc = true };
  control = fresh_control;
  serial = record { sent = 0; received = 0 };
  transmitter = idle_transmitter;
  receiver = idle_receiver;
}

-- all levels 1, as a chip has them that was given RES high and no other input
abbrev pub high_levels : Levels
high_levels = record { ports = 0xFFFFFFFF; nmi = true; res = true }

-- 02, U8: "Make fresh mean RES low in both its levels, all else as before."
abbrev pub fresh_levels : Levels
fresh_levels = record { ports = 0xFFFFFFFF; nmi = true; res = false }

-- "Fresh", with "clock 0"
unfoldable pub fresh : State
fresh = record {
  cpu = fresh_cpu;
  due = fresh_due;
  peripherals = fresh_peripherals;
  external = fresh_levels;
  last = fresh_levels;
  clock = 0;
}

-- "wait (0 to 6)"; "Bits 4 and 5 of P are 0"; and the one rule across fields, 02, U6: "A byte waiting with wait 0 isn't
-- well-formed."
abbrev pub cpu_fits : Cpu → Bool
cpu_fits c = eqb (c.p / 16 % 4) 0 && leb c.wait 6 && not (byte_waits c.waiting && eqb c.wait 0)

-- "IFR bits 0 to 5", and the serial progress
abbrev pub peripherals_fit : Peripherals → Bool
peripherals_fit p = ltb p.control.ifr 64 && transmitter_fits p.transmitter && receiver_fits p.receiver

-- "Well-formed: every field is within its range here." In code, fields of 8, 16 and 32 bits, flags and levels are so
-- by their types, and the theorems over states hold whatever numbers stand there; what types do not say is tested.
unfoldable pub well_formed : State → Bool
well_formed s = cpu_fits s.cpu && peripherals_fit s.peripherals
