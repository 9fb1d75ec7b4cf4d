-- 01, Serial channel: the transmitter; 02, U1: in shift-register mode.
use Rattle.std.specs.Prelude.{Bool, true, false, ◌&&◌, ◌||◌, not, cond, List, ℕ, ◌+◌, ◌-◌, ◌/◌, ◌%◌, leb, ltb, eqb, length}
use Rattle.bits.specs.Bits.{bit, with_bit}
use Rattle.bits.specs.Lists.{bits_of, number_of_bits}
use Rattle.counters.specs.declared.time.Ticks.{Ticks}
use Rattle.serial_transmitter.specs.declared.Transmitter.{Transmitter}
use Rattle.serial_transmitter.specs.declared.Sending.{Sending}
use Rattle.serial_format.specs.ScsrBits.{transmitter_empty, underrun}
use Rattle.serial_format.specs.Format.{transmitter_shifts, keeps_transmitter, frame_bits, pace}

-- what the transmitter sends of a byte; 02, U1, in shift-register mode: "its frame the byte alone"
unfoldable pub sent_bits : ℕ → ℕ → List Bool
sent_bits sccr byte = cond (transmitter_shifts sccr) (bits_of 8 byte) (frame_bits sccr byte)

abbrev pub sending : Transmitter → ℕ → Sending
sending t scsr = record { transmitter = t; scsr = scsr }

-- progress 0
abbrev pub idle_transmitter : Transmitter
idle_transmitter = record { left = 0; phase = 0; register = 0 }

-- "phase 0, register and bits left to a frame"
unfoldable pub framed : ℕ → ℕ → Transmitter
framed sccr byte =
    record { left = length (sent_bits sccr byte); phase = 0; register = number_of_bits (sent_bits sccr byte) }

-- "it takes the data, sets SCSR6"; 001, 5.3, SCSR 7: "Cleared by a transfer of new data into the Transmitter Shift
-- Register"
unfoldable pub taken : ℕ → ℕ → ℕ → Sending
taken sccr scsr byte = sending (framed sccr byte) (with_bit underrun false (with_bit transmitter_empty true scsr))

-- "with no bits left and SCSR6 clear, it takes the data"; 001, 5.3, SCSR 7: under-run is no matter of later idle ticks
unfoldable pub idle_tick : Transmitter → ℕ → ℕ → ℕ → Sending
idle_tick t sccr scsr byte = cond (bit transmitter_empty scsr) (sending t scsr) (taken sccr scsr byte)

-- "None left: it takes the next data that tick, or sets SCSR7."
unfoldable pub frame_end : Transmitter → ℕ → ℕ → ℕ → Sending
frame_end t sccr scsr byte =
    cond (bit transmitter_empty scsr) (sending t (with_bit underrun true scsr)) (taken sccr scsr byte)

-- "each later tick raises the phase", "from 15 to 0"
unfoldable pub next_phase : ℕ → ℕ
next_phase phase = cond (ltb phase 15) (phase + 1) 0

abbrev pub raised : Transmitter → Transmitter
raised t = record { left = t.left; phase = next_phase t.phase; register = t.register }

-- "shifts the register down, one bit fewer left"
abbrev pub shifted_down : Transmitter → Transmitter
shifted_down t = record { left = t.left - 1; phase = t.phase; register = t.register / 2 }

-- a tick of bits taken in turn, each for as many ticks as the pace says: 16 are "from 15 to 0", 2 "makes the phase
-- even"
unfoldable pub ticked : ℕ → Transmitter → Transmitter
ticked ticks t = cond (eqb (next_phase t.phase % ticks) 0) (shifted_down (raised t)) (raised t)

-- "None left" ends the frame
abbrev pub ended_where_none_left : Transmitter → ℕ → ℕ → ℕ → Sending
ended_where_none_left t sccr scsr byte = cond (eqb t.left 0) (frame_end t sccr scsr byte) (sending t scsr)

unfoldable pub bit_tick : Transmitter → ℕ → ℕ → ℕ → Sending
bit_tick t sccr scsr byte = ended_where_none_left (ticked (pace sccr) t) sccr scsr byte

-- one tick of a transmitter that is on
unfoldable pub send_tick : Transmitter → ℕ → ℕ → ℕ → Sending
send_tick t sccr scsr byte = cond (eqb t.left 0) (idle_tick t sccr scsr byte) (bit_tick t sccr scsr byte)

-- 01, One clock, 3, for the transmitter: the ticks of a clock are none or one
unfoldable pub transmitter_clock : Transmitter → Ticks → ℕ → ℕ → ℕ → Sending
transmitter_clock t ticks sccr scsr byte =
    cond (not (eqb ticks.0 0) && bit 7 sccr) (send_tick t sccr scsr byte) (sending t scsr)

-- "While bits are left, bit 0 is the line"; 01, Pin lists: "high when idle"
unfoldable pub line : Transmitter → Bool
line t = eqb t.left 0 || bit 0 t.register

-- 02, U1: "PA4's drive is its clock, low at even phases while bits are left, else high"
unfoldable pub shift_clock : Transmitter → Bool
shift_clock t = eqb t.left 0 || eqb (t.phase % 2) 1

-- its progress after a write of SCCR over an old value
unfoldable pub transmitter_with_sccr : ℕ → ℕ → Transmitter → Transmitter
transmitter_with_sccr old sccr t = cond (keeps_transmitter old sccr) t idle_transmitter

-- 01, Machine state: "transmitter bits left (0 to 12), phase (0 to 15), register (12 bits)"
abbrev pub transmitter_fits : Transmitter → Bool
transmitter_fits t = leb t.left 12 && leb t.phase 15 && ltb t.register 4096
