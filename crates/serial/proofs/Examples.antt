-- P5 and P6 of document 01; a byte sent and one received in shift-register mode (02, U1).
use mathlib.Core.Path.{◌≡◌, refl}
use mathlib.Core.Bool.{Bool, true, false}
use mathlib.Core.List.{List, [], ◌∷◌}
use Prim.Native.Nat.{ℕ, zero, suc}
use Rattle.bits.specs.Bits.{with_bit, set_where}
use Rattle.counters.specs.declared.a.CounterA.{CounterA}
use Rattle.counters.specs.Counters.{CountedA, clock_a, counts_a, down_a, ticks_of, in_force}
use Rattle.serial_transmitter.specs.declared.Sending.{Sending}
use Rattle.serial_receiver.specs.declared.Receiver.{Receiver}
use Rattle.serial_receiver.specs.declared.Receiving.{Receiving}
use Rattle.serial_format.specs.Format.{receiver_asynchronous, receiver_shifting, holds_a, frame_bits, pace}
use Rattle.serial_transmitter.specs.Transmitter.{sent_bits}
use Rattle.serial_transmitter.specs.Transmitter.{sending, transmitter_clock, send_tick, idle_tick, next_phase, ticked, bit_tick}
use Rattle.serial_transmitter.specs.Transmitter.{frame_end, taken, framed, line, shift_clock, idle_transmitter}
use Rattle.serial_receiver.specs.Receiver.{receiver_clock, receive_tick, looked, start_detected, receiving, idle_receiver}
use Rattle.serial_receiver.specs.Receiver.{with_level, shifted_at_rise, receive_rise, byte_ended, kept_with, scsr_after}

-- counter A with its latch, and the transmitter that it drives
pub record Driven : Type 0 where
  pub counter : CounterA
  pub sender : Sending

abbrev clocked_by : Driven → ℕ → ℕ → CountedA → Driven
clocked_by d sccr byte a =
    record {
      counter = a.counter;
      sender = transmitter_clock d.sender.transmitter (ticks_of a.underflow) sccr d.sender.scsr byte;
    }

-- n clocks: step 2 for counter A, which SCCR holds to mode 00 whatever its mode, then step 3 for the transmitter
abbrev pub driven_for : ℕ → ℕ → ℕ → ℕ → Driven → Driven
driven_for zero mode sccr byte d = d
driven_for (suc n) mode sccr byte d =
    driven_for n mode sccr byte (clocked_by d sccr byte (clock_a d.counter (in_force (holds_a sccr) mode) false false))

-- latch 0 and data waiting (SCSR6 clear)
abbrev pub waiting : Driven
waiting = record { counter = record { count = 0; latch = 0 }; sender = sending idle_transmitter 0 }

-- P5, "41h, 8 bits, no parity, latch 0: 176 clocks from start to idle": SCCR 80h. The first clock takes the byte, the
-- start bit is on the line; 175 clocks later one bit is left; 176 clocks later it is idle, with an under-run.
pub p5_start : (mode : ℕ)
    → (driven_for 1 mode 0x80 0x41 waiting).sender.transmitter ≡ record { left = 11; phase = 0; register = 0x682 }
unfolding in_force holds_a clock_a counts_a down_a ticks_of transmitter_clock send_tick idle_tick taken framed sent_bits frame_bits
    with_bit
p5_start mode = refl

pub p5_last_bit : (mode : ℕ) → (driven_for 176 mode 0x80 0x41 waiting).sender.transmitter.left ≡ 1
unfolding in_force holds_a clock_a counts_a down_a ticks_of transmitter_clock send_tick idle_tick next_phase pace ticked bit_tick
    frame_end taken framed sent_bits frame_bits with_bit
p5_last_bit mode = refl

pub p5_idle : (mode : ℕ) → (driven_for 177 mode 0x80 0x41 waiting).sender ≡ sending idle_transmitter 0xC0
unfolding in_force holds_a clock_a counts_a down_a ticks_of transmitter_clock send_tick idle_tick next_phase pace ticked bit_tick
    frame_end taken framed sent_bits frame_bits with_bit
p5_idle mode = refl

-- ticks with one level of PA7
abbrev pub heard_for : ℕ → ℕ → Bool → Receiving → Receiving
heard_for zero sccr high r = r
heard_for (suc n) sccr high r =
    heard_for n sccr high (receiver_clock r.receiver (ticks_of true) false sccr r.scsr r.received high)

-- P6, "one low sub-interval at the receiver: no start": two ticks with PA7 low and two with it high leave the receiver,
-- the status and the data as they were, with no bits left
pub p6 : (register scsr received : ℕ) →
    let r : Receiver = record { subinterval = 0; half = false; left = 0; register = register } in
    heard_for 2 0x40 true (heard_for 2 0x40 false (receiving r scsr received)) ≡ receiving r scsr received
unfolding ticks_of receiver_clock receiver_asynchronous receive_tick looked start_detected
p6 register scsr received = refl

-- ---- shift-register mode

-- SCCR A0h, latch 0, 41h waiting: the lines PA6 and PA4 and what is left after n clocks
pub record Lines : Type 0 where
  pub pa6 : Bool
  pub pa4 : Bool
  pub left : ℕ

abbrev pub shifted_for : ℕ → ℕ → Lines
shifted_for n mode =
    let t = (driven_for n mode 0xA0 0x41 waiting).sender.transmitter in
    record { pa6 = line t; pa4 = shift_clock t; left = t.left }

abbrev pub lines : Bool → Bool → ℕ → Lines
lines pa6 pa4 left = record { pa6 = pa6; pa4 = pa4; left = left }

-- "its frame the byte alone, shifted at each tick that makes the phase even": the first clock takes the byte; bit 0 is
-- on the line, the clock low
pub shift_take : (mode : ℕ) → shifted_for 1 mode ≡ lines true false 8
unfolding in_force holds_a clock_a counts_a down_a ticks_of transmitter_clock send_tick idle_tick taken framed sent_bits with_bit
    line shift_clock
shift_take mode = refl

pub shift_high : (mode : ℕ) → shifted_for 2 mode ≡ lines true true 8
unfolding in_force holds_a clock_a counts_a down_a ticks_of transmitter_clock send_tick idle_tick next_phase pace ticked bit_tick
    taken framed sent_bits with_bit line shift_clock
shift_high mode = refl

pub shift_second : (mode : ℕ) → shifted_for 3 mode ≡ lines false false 7
unfolding in_force holds_a clock_a counts_a down_a ticks_of transmitter_clock send_tick idle_tick next_phase pace ticked bit_tick
    taken framed sent_bits with_bit line shift_clock
shift_second mode = refl

pub shift_last : (mode : ℕ) → shifted_for 16 mode ≡ lines false true 1
unfolding in_force holds_a clock_a counts_a down_a ticks_of transmitter_clock send_tick idle_tick next_phase pace ticked bit_tick
    frame_end taken framed sent_bits with_bit line shift_clock
shift_last mode = refl

-- sixteen clocks after the take: an under-run, both lines high
pub shift_idle : (mode : ℕ)
    → (shifted_for 17 mode ≡ lines true true 0)
    × ((driven_for 17 mode 0xA0 0x41 waiting).sender ≡ sending idle_transmitter 0xC0)
unfolding in_force holds_a clock_a counts_a down_a ticks_of transmitter_clock send_tick idle_tick next_phase pace ticked bit_tick
    frame_end taken framed sent_bits with_bit line shift_clock
shift_idle mode = (refl, refl)

-- rises of PA4 with these levels of PA7, SCCR 50h, on clocks without a tick
abbrev pub risen_for : List Bool → Receiving → Receiving
risen_for [] r = r
risen_for (high ∷ levels) r =
    risen_for levels (receiver_clock r.receiver (ticks_of false) true 0x50 r.scsr r.received high)

-- "a rise with no bits left first making them 8", and shifting in the same clock
pub shift_first_rise : (received : ℕ) → risen_for (true ∷ []) (receiving idle_receiver 0x40 received)
    ≡ receiving (record { subinterval = 0; half = false; left = 7; register = 0x400 }) 0x40 received
unfolding ticks_of receiver_clock receiver_asynchronous receiver_shifting receive_rise shifted_at_rise with_level
shift_first_rise received = refl

-- "at the last the byte is bits 3 to 10, with SCSR0": 1, 0, 0, 0, 0, 0, 1, 0 is 41h
pub shift_received : (received : ℕ)
    → risen_for (true ∷ false ∷ false ∷ false ∷ false ∷ false ∷ true ∷ false ∷ []) (receiving idle_receiver 0x40 received)
    ≡ receiving (record { subinterval = 0; half = false; left = 0; register = 0x208 }) 0x41 0x41
unfolding ticks_of receiver_clock receiver_asynchronous receiver_shifting receive_rise shifted_at_rise with_level byte_ended
    kept_with scsr_after set_where with_bit
shift_received received = refl
