-- What several registers share: the interrupt flags as read, and the counters' modes.
use Rattle.std.specs.Prelude.{Bool, ◌&&◌, ◌||◌, not, ℕ, ◌/◌, ◌%◌, eqb}
use Rattle.std.specs.Int.Bits.{bit_and}
use Rattle.bits.specs.Bits.{bit, with_bit}
use Rattle.counters.specs.Counters.{in_force}
use Rattle.serial_format.specs.ScsrBits.{receiver_full, overrun, parity_error, framing_error, end_of_transmission}
use Rattle.serial_format.specs.ScsrBits.{transmitter_empty}
use Rattle.serial_format.specs.ScsrBits.{underrun}
use Rattle.serial_format.specs.Format.{holds_a}
use Rattle.r6501q_state.specs.declared.state.Control.{Control}

-- 01, Registers: "IFR6 is SCSR0 or 1 or 2 or 3."
abbrev pub receiver_flag : ℕ → Bool
receiver_flag scsr = bit receiver_full scsr || bit overrun scsr || bit parity_error scsr || bit framing_error scsr

-- "IFR7 is SCSR6 and (not SCSR5, or SCSR7)."
abbrev pub transmitter_flag : ℕ → Bool
transmitter_flag scsr = bit transmitter_empty scsr && (not (bit end_of_transmission scsr) || bit underrun scsr)

-- the interrupt flags, bits 6 and 7 with them
unfoldable pub flags_of : Control → ℕ
flags_of c = with_bit 7 (transmitter_flag c.scsr) (with_bit 6 (receiver_flag c.scsr) c.ifr)

-- 01, One clock, 4: "IFR AND IER nonzero"
abbrev pub pending : Control → Bool
pending c = not (eqb (bit_and (flags_of c) c.ier) 0)

-- 01, One clock, 2: "MCR1, MCR0 choose A's mode, MCR3, MCR2 B's"; "SCCR7, or SCCR6 with an asynchronous receiver,
-- holds A to mode 00"
unfoldable pub mode_a : ℕ → ℕ → ℕ
mode_a mcr sccr = in_force (holds_a sccr) (mcr % 4)

unfoldable pub mode_b : ℕ → ℕ
mode_b mcr = mcr / 4 % 4

-- A's mode in force, of the control registers
abbrev pub mode_in_force : Control → ℕ
mode_in_force c = mode_a c.mcr c.sccr
