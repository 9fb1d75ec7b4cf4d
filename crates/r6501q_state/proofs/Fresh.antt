-- 02, U8: a fresh chip, field by field, each a literal: the start is written out once more, apart from its definitions.
use Rattle.std.specs.Prelude.{None}
use mathlib.Core.Path.{◌≡◌, refl}
use mathlib.Core.Bool.{true, false}
use Rattle.r6501q_state.specs.State.{fresh}

-- "RES low in both its levels, all else as before": A, X, Y, PC, wait 0, no byte waiting; SP FFh; P with I set alone;
-- reset due, NMI not; ports FFh; counters and latches FFFFh, turn C; registers 0 but SCSR 40h; serial data and progress
-- 0; every other level 1; clock 0
abbrev pub FreshFields : Type 0
FreshFields = fresh ≡ record {
  cpu = record { a = 0; x = 0; y = 0; sp = 0xFF; p = 0x04; pc = 0; wait = 0; waiting = None };
  due = record { reset = true; nmi = false };
  peripherals = record {
    ports = record { a = 0xFF; b = 0xFF; c = 0xFF; d = 0xFF };
    countera = record { count = 0xFFFF; latch = 0xFFFF };
    counterb = record { count = 0xFFFF; latchb = 0xFFFF; latchc = 0xFFFF; turnc = true };
    control = record { ifr = 0; ier = 0; mcr = 0; sccr = 0; scsr = 0x40 };
    serial = record { sent = 0; received = 0 };
    transmitter = record { left = 0; phase = 0; register = 0 };
    receiver = record { subinterval = 0; half = false; left = 0; register = 0 };
  };
  external = record { ports = 0xFFFFFFFF; nmi = true; res = false };
  last = record { ports = 0xFFFFFFFF; nmi = true; res = false };
  clock = 0;
}

pub fresh_fields : FreshFields
unfolding fresh
fresh_fields = refl
