-- 01, Serial channel: the receiver; 02, U1: in shift-register mode.
use Rattle.std.specs.Prelude.{Bool, true, false, ◌&&◌, ◌||◌, not, cond, ℕ, ◌+◌, ◌-◌, ◌*◌, ◌/◌, ◌%◌, ◌^◌, leb, ltb, eqb}
use Rattle.std.specs.Bool.{beq}
use Rattle.bits.specs.Bits.{bit, one_where, set_where}
use Rattle.counters.specs.declared.time.Ticks.{Ticks}
use Rattle.serial_receiver.specs.declared.Receiver.{Receiver}
use Rattle.serial_receiver.specs.declared.Receiving.{Receiving}
use Rattle.serial_format.specs.ScsrBits.{receiver_full, overrun, parity_error, framing_error}
use Rattle.serial_format.specs.Format.{receiver_asynchronous, receiver_shifting, keeps_receiver, width, has_parity}
use Rattle.serial_format.specs.Format.{parity_bit, data_bits}

abbrev pub receiving : Receiver → ℕ → ℕ → Receiving
receiving r scsr received = record { receiver = r; scsr = scsr; received = received }

-- progress 0
abbrev pub idle_receiver : Receiver
idle_receiver = record { subinterval = 0; half = false; left = 0; register = 0 }

abbrev pub at_sub : Receiver → ℕ → Receiver
at_sub r n = record { subinterval = n; half = r.half; left = r.left; register = r.register }

-- "bits left data + parity + one stop"
abbrev pub bits_after_start : ℕ → ℕ
bits_after_start sccr = width sccr + one_where (has_parity sccr) + 1

abbrev pub started : Receiver → ℕ → Receiver
started r sccr = record { subinterval = 0; half = r.half; left = bits_after_start sccr; register = r.register }

-- "With no bits left, sub-interval counts lows running, a high zeroes it; a low at 3 or more makes a start"
unfoldable pub start_detected : Receiver → ℕ → Bool → Receiver
start_detected r sccr high =
    cond high (at_sub r 0) (cond (ltb r.subinterval 3) (at_sub r (r.subinterval + 1)) (started r sccr))

-- "shifts the level into bit 10": in either mode
unfoldable pub with_level : ℕ → Bool → ℕ
with_level register high = register / 2 + one_where high * 1024

-- ", one bit fewer left"
abbrev pub shifted_in : Receiver → Bool → Receiver
shifted_in r high =
    record { subinterval = 0; half = r.half; left = r.left - 1; register = with_level r.register high }

-- "bit 10 is the stop, parity and data below it", "the byte (high bits 0)"
unfoldable pub received_byte : ℕ → ℕ → ℕ
received_byte sccr register = register / 2 ^ (10 - one_where (has_parity sccr) - width sccr) % 2 ^ width sccr

-- "Wrong parity", "a low stop"
unfoldable pub wrong_parity : ℕ → ℕ → Bool
wrong_parity sccr register =
    has_parity sccr && not (beq (bit 9 register) (parity_bit sccr (data_bits sccr (received_byte sccr register))))

abbrev pub low_stop : ℕ → Bool
low_stop register = not (bit 10 register)

-- "if SCSR0 is clear .. SCSR0 set; else SCSR1 is set. Wrong parity sets SCSR2, a low stop SCSR3";
-- 001, 5.3, SCSR 0: it "will not be set to a logic 1 if the received data contains an error condition"
unfoldable pub scsr_after : ℕ → Bool → Bool → ℕ
scsr_after scsr wrong low =
    set_where framing_error low (set_where parity_error wrong
    (cond (bit receiver_full scsr) (set_where overrun true scsr) (set_where receiver_full (not (wrong || low)) scsr)))

-- "if SCSR0 is clear the byte .. is kept"
unfoldable pub kept_with : ℕ → Receiver → ℕ → ℕ → ℕ → Receiving
kept_with byte r status scsr received = receiving r status (cond (bit receiver_full scsr) received byte)

-- "At the last, by SCCR then"
unfoldable pub frame_ended : Receiver → ℕ → ℕ → ℕ → Receiving
frame_ended r sccr scsr received =
    kept_with (received_byte sccr r.register) r
    (scsr_after scsr (wrong_parity sccr r.register) (low_stop r.register)) scsr received

-- "Then each eighth look, from 7 to 0"
unfoldable pub look_taken : Receiver → ℕ → ℕ → ℕ → Bool → Receiving
look_taken r sccr scsr received high =
    cond (ltb r.subinterval 7) (receiving (at_sub r (r.subinterval + 1)) scsr received)
    (cond (eqb (r.left - 1) 0) (frame_ended (shifted_in r high) sccr scsr received)
    (receiving (shifted_in r high) scsr received))

-- a look at PA7
unfoldable pub looked : Receiver → ℕ → ℕ → ℕ → Bool → Receiving
looked r sccr scsr received high =
    cond (eqb r.left 0) (receiving (start_detected r sccr high) scsr received) (look_taken r sccr scsr received high)

abbrev pub at_half : Receiver → Bool → Receiver
at_half r h = record { subinterval = r.subinterval; half = h; left = r.left; register = r.register }

-- "looks at PA7 every second tick, where half returns to 0"
unfoldable pub receive_tick : Receiver → ℕ → ℕ → ℕ → Bool → Receiving
receive_tick r sccr scsr received high =
    cond r.half (looked (at_half r false) sccr scsr received high) (receiving (at_half r true) scsr received)

-- 02, U1: "shifts PA7 into bit 10 at each rise of PA4, a rise with no bits left first making them 8"
unfoldable pub shifted_at_rise : Receiver → Bool → Receiver
shifted_at_rise r high = record {
  subinterval = r.subinterval;
  half = r.half;
  left = cond (eqb r.left 0) 8 r.left - 1;
  register = with_level r.register high;
}

-- "at the last the byte is bits 3 to 10, with SCSR0 or SCSR1 as in 01": without an error
unfoldable pub byte_ended : Receiver → ℕ → ℕ → Receiving
byte_ended r scsr received = kept_with (r.register / 8 % 256) r (scsr_after scsr false false) scsr received

abbrev pub ended_at_last : Receiver → ℕ → ℕ → Receiving
ended_at_last r scsr received = cond (eqb r.left 0) (byte_ended r scsr received) (receiving r scsr received)

-- a rise of PA4
unfoldable pub receive_rise : Receiver → ℕ → ℕ → Bool → Receiving
receive_rise r scsr received high = ended_at_last (shifted_at_rise r high) scsr received

-- 01, One clock, 3, for the receiver: asynchronous it goes by ticks, which are none or one in a clock; 02, U1: in
-- shift-register mode by a rise of PA4
unfoldable pub receiver_clock : Receiver → Ticks → Bool → ℕ → ℕ → ℕ → Bool → Receiving
receiver_clock r ticks rise sccr scsr received high =
    cond (not (eqb ticks.0 0) && receiver_asynchronous sccr) (receive_tick r sccr scsr received high)
    (cond (rise && receiver_shifting sccr) (receive_rise r scsr received high) (receiving r scsr received))

-- its progress after a write of SCCR over an old value
unfoldable pub receiver_with_sccr : ℕ → ℕ → Receiver → Receiver
receiver_with_sccr old sccr r = cond (keeps_receiver old sccr) r idle_receiver

-- 01, Machine state: "receiver sub-interval (0 to 7), half (0 or 1), bits left (0 to 11), register (11 bits)"; half is
-- a flag
abbrev pub receiver_fits : Receiver → Bool
receiver_fits r = leb r.subinterval 7 && leb r.left 11 && ltb r.register 2048
