-- Records with some parts set anew, all others kept. No rule stands here.
use Rattle.std.specs.Prelude.{ℕ}
use Rattle.serial_transmitter.specs.declared.Sending.{Sending}
use Rattle.serial_receiver.specs.declared.Receiving.{Receiving}
use Rattle.r6501q_state.specs.declared.state.Peripherals.{Peripherals}
use Rattle.r6501q_state.specs.declared.state.Levels.{Levels}
use Rattle.r6501q_state.specs.declared.state.State.{State}
use Rattle.r6501q_state.specs.Copies.{with_scsr}

-- the state at a clock, with these external levels
abbrev pub with_external : State → ℕ → Levels → State
with_external s clock levels = record {
  cpu = s.cpu;
  due = s.due;
  peripherals = s.peripherals;
  external = levels;
  last = s.last;
  clock = clock;
}

-- what the transmitter leaves, and what the receiver leaves, put back
abbrev pub after_sending : Peripherals → Sending → Peripherals
after_sending p x = record {
  ports = p.ports;
  countera = p.countera;
  counterb = p.counterb;
  control = with_scsr p.control x.scsr;
  serial = p.serial;
  transmitter = x.transmitter;
  receiver = p.receiver;
}

abbrev pub after_receiving : Peripherals → Receiving → Peripherals
after_receiving p x = record {
  ports = p.ports;
  countera = p.countera;
  counterb = p.counterb;
  control = with_scsr p.control x.scsr;
  serial = record { sent = p.serial.sent; received = x.received };
  transmitter = p.transmitter;
  receiver = x.receiver;
}
