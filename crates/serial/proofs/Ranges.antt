-- Every clock keeps the ranges of the serial progress.
use mathlib.Core.Path.{◌≡◌, refl}
use mathlib.Core.Bool.{Bool, true, false, ◌&&◌, not, cond}
use mathlib.Core.List.{List}
use Prim.Native.Nat.{ℕ, ◌+◌, ◌-◌, ◌%◌, ◌^◌, ◌≤◌, ◌<◌}
use native.Mathlib.Nat.{lt_of_lt_of_le}
use native.Mathlib.Omega.{arith}
use lib.Dec.{leb, ltb, eqb}
use lib.Pow.{pow_mono}
use lib.ListN.{length}
use borrow.Author.Tests.{leb-true, ltb-true, le-leb, lt-ltb}
use Rattle.bits.specs.Bits.{bit, with_bit}
use Rattle.bits.specs.Lists.{bits_of}
use Rattle.bits.proofs.Cond.{and_left, and_right, and_both, cond_both, one_where_le}
use Rattle.bits.proofs.Numbers.{number_lt}
use Rattle.counters.specs.declared.time.Ticks.{Ticks}
use Rattle.serial_transmitter.specs.declared.Transmitter.{Transmitter}
use Rattle.serial_transmitter.specs.declared.Sending.{Sending}
use Rattle.serial_receiver.specs.declared.Receiver.{Receiver}
use Rattle.serial_receiver.specs.declared.Receiving.{Receiving}
use Rattle.serial_format.specs.Format.{transmitter_shifts, receiver_asynchronous, receiver_shifting, keeps_transmitter}
use Rattle.serial_format.specs.Format.{keeps_receiver, has_parity, frame_bits, pace}
use Rattle.serial_transmitter.specs.Transmitter.{sent_bits}
use Rattle.serial_transmitter.specs.Transmitter.{transmitter_fits, sending, framed, taken, idle_tick, frame_end, next_phase}
use Rattle.serial_transmitter.specs.Transmitter.{ticked, bit_tick, send_tick, transmitter_clock, raised, shifted_down}
use Rattle.serial_transmitter.specs.Transmitter.{transmitter_with_sccr, idle_transmitter}
use Rattle.serial_receiver.specs.Receiver.{receiver_fits, receiving, at_sub, at_half, started, shifted_in, start_detected}
use Rattle.serial_receiver.specs.Receiver.{with_level, kept_with, frame_ended, look_taken, looked, receive_tick, shifted_at_rise}
use Rattle.serial_receiver.specs.Receiver.{byte_ended, receive_rise, receiver_clock, receiver_with_sccr, idle_receiver}
use Rattle.serial_format.proofs.Frames.{frame_length}

-- the ranges as facts
pub record InTransmitter (t : Transmitter) : Type 0 where
  pub left : t.left ≤ 12
  pub phase : t.phase ≤ 15
  pub register : t.register < 4096

pub in_transmitter : (t : Transmitter) → transmitter_fits t ≡ true → InTransmitter t
in_transmitter t e = record {
  left = leb-true _ _ (and_left _ _ (and_left _ _ e));
  phase = leb-true _ _ (and_right (leb t.left 12) _ (and_left _ _ e));
  register = ltb-true _ _ (and_right (leb t.left 12 && leb t.phase 15) _ e);
}

pub fits_transmitter : (t : Transmitter) → InTransmitter t → transmitter_fits t ≡ true
fits_transmitter t i =
    and_both _ _ (and_both _ _ (le-leb _ _ i.left) (le-leb _ _ i.phase)) (lt-ltb _ _ i.register)

abbrev SendingIn : Sending → Type 0
SendingIn s = InTransmitter s.transmitter

sent_length : (sccr byte : ℕ) → length (sent_bits sccr byte) ≤ 12
unfolding sent_bits
sent_length sccr byte =
    cond_both (λ (l : List Bool). length l ≤ 12) (transmitter_shifts sccr) (bits_of 8 byte) (frame_bits sccr byte)
    (λ _. omega arith) (λ _. let l = frame_length sccr byte in omega arith)

framed_in : (sccr byte : ℕ) → InTransmitter (framed sccr byte)
unfolding framed
framed_in sccr byte =
    let l = sent_length sccr byte in
    let n = number_lt (sent_bits sccr byte) in
    let p : 2 ^ length (sent_bits sccr byte) ≤ 2 ^ 12 = pow_mono {i = length (sent_bits sccr byte)} {j = 12} l in
    record { left = l; phase = omega arith; register = lt_of_lt_of_le n p }

taken_in : (sccr scsr byte : ℕ) → SendingIn (taken sccr scsr byte)
unfolding taken
taken_in sccr scsr byte = framed_in sccr byte

idle_in : (t : Transmitter) (sccr scsr byte : ℕ) → InTransmitter t → SendingIn (idle_tick t sccr scsr byte)
unfolding idle_tick
idle_in t sccr scsr byte i =
    cond_both SendingIn (bit 6 scsr) (sending t scsr) (taken sccr scsr byte) (λ _. i) (λ _. taken_in sccr scsr byte)

end_in : (t : Transmitter) (sccr scsr byte : ℕ) → InTransmitter t → SendingIn (frame_end t sccr scsr byte)
unfolding frame_end
end_in t sccr scsr byte i =
    cond_both SendingIn (bit 6 scsr) (sending t (with_bit 7 true scsr)) (taken sccr scsr byte) (λ _. i)
    (λ _. taken_in sccr scsr byte)

next_le : (phase : ℕ) → next_phase phase ≤ 15
unfolding next_phase
next_le phase =
    cond_both (λ (n : ℕ). n ≤ 15) (ltb phase 15) (phase + 1) 0 (λ e. let h = ltb-true phase 15 e in omega arith)
    (λ _. omega arith)

ticked_in : (ticks : ℕ) (t : Transmitter) → InTransmitter t → InTransmitter (ticked ticks t)
unfolding ticked
ticked_in ticks t i =
    cond_both InTransmitter (eqb (next_phase t.phase % ticks) 0) (shifted_down (raised t)) (raised t)
    (λ _. let l = i.left in
    let r = i.register in
    record { left = omega arith; phase = next_le t.phase; register = omega arith })
    (λ _. record { left = i.left; phase = next_le t.phase; register = i.register })

bit_in : (t : Transmitter) (sccr scsr byte : ℕ) → InTransmitter t → SendingIn (bit_tick t sccr scsr byte)
unfolding bit_tick
bit_in t sccr scsr byte i =
    let next = ticked (pace sccr) t in
    let in_range = ticked_in (pace sccr) t i in
    cond_both SendingIn (eqb next.left 0) (frame_end next sccr scsr byte) (sending next scsr)
    (λ _. end_in next sccr scsr byte in_range) (λ _. in_range)

tick_in : (t : Transmitter) (sccr scsr byte : ℕ) → InTransmitter t → SendingIn (send_tick t sccr scsr byte)
unfolding send_tick
tick_in t sccr scsr byte i =
    cond_both SendingIn (eqb t.left 0) (idle_tick t sccr scsr byte) (bit_tick t sccr scsr byte)
    (λ _. idle_in t sccr scsr byte i) (λ _. bit_in t sccr scsr byte i)

pub transmitter_clock_fits : (t : Transmitter) (ticks : Ticks) (sccr scsr byte : ℕ) → transmitter_fits t ≡ true
    → transmitter_fits (transmitter_clock t ticks sccr scsr byte).transmitter ≡ true
unfolding transmitter_clock
transmitter_clock_fits t ticks sccr scsr byte e =
    fits_transmitter _
    (cond_both SendingIn (not (eqb ticks.0 0) && bit 7 sccr) (send_tick t sccr scsr byte) (sending t scsr)
    (λ _. tick_in t sccr scsr byte (in_transmitter t e)) (λ _. in_transmitter t e))

pub transmitter_under_fits : (old sccr : ℕ) (t : Transmitter) → transmitter_fits t ≡ true
    → transmitter_fits (transmitter_with_sccr old sccr t) ≡ true
unfolding transmitter_with_sccr
transmitter_under_fits old sccr t e =
    cond_both (λ (u : Transmitter). transmitter_fits u ≡ true) (keeps_transmitter old sccr) t idle_transmitter (λ _. e)
    (λ _. refl)

pub record InReceiver (r : Receiver) : Type 0 where
  pub subinterval : r.subinterval ≤ 7
  pub left : r.left ≤ 11
  pub register : r.register < 2048

pub in_receiver : (r : Receiver) → receiver_fits r ≡ true → InReceiver r
in_receiver r e = record {
  subinterval = leb-true _ _ (and_left _ _ (and_left _ _ e));
  left = leb-true _ _ (and_right (leb r.subinterval 7) _ (and_left _ _ e));
  register = ltb-true _ _ (and_right (leb r.subinterval 7 && leb r.left 11) _ e);
}

pub fits_receiver : (r : Receiver) → InReceiver r → receiver_fits r ≡ true
fits_receiver r i =
    and_both _ _ (and_both _ _ (le-leb _ _ i.subinterval) (le-leb _ _ i.left)) (lt-ltb _ _ i.register)

abbrev ReceivingIn : Receiving → Type 0
ReceivingIn s = InReceiver s.receiver

start_detected_in : (r : Receiver) (sccr : ℕ) (high : Bool) → InReceiver r → InReceiver (start_detected r sccr high)
unfolding start_detected
start_detected_in r sccr high i =
    cond_both InReceiver high (at_sub r 0)
    (cond (ltb r.subinterval 3) (at_sub r (r.subinterval + 1)) (started r sccr))
    (λ _. record { subinterval = omega arith; left = i.left; register = i.register })
    (λ _. cond_both InReceiver (ltb r.subinterval 3) (at_sub r (r.subinterval + 1)) (started r sccr)
    (λ e. let h = ltb-true r.subinterval 3 e in
    record { subinterval = omega arith; left = i.left; register = i.register })
    (λ _. let d = one_where_le (has_parity sccr) in
    record { subinterval = omega arith; left = omega arith; register = i.register }))

with_level_lem : (r : Receiver) (high : Bool) → InReceiver r → InReceiver (shifted_in r high)
unfolding with_level
with_level_lem r high i =
    let l = i.left in let g = i.register in let d = one_where_le high in
    record { subinterval = omega arith; left = omega arith; register = omega arith }

look_taken_in : (r : Receiver) (sccr scsr received : ℕ) (high : Bool) → InReceiver r
    → ReceivingIn (look_taken r sccr scsr received high)
unfolding look_taken frame_ended kept_with
look_taken_in r sccr scsr received high i =
    cond_both ReceivingIn (ltb r.subinterval 7) (receiving (at_sub r (r.subinterval + 1)) scsr received)
    (cond (eqb (r.left - 1) 0) (frame_ended (shifted_in r high) sccr scsr received)
    (receiving (shifted_in r high) scsr received))
    (λ e. let h = ltb-true r.subinterval 7 e in
    record { subinterval = omega arith; left = i.left; register = i.register })
    (λ _. cond_both ReceivingIn (eqb (r.left - 1) 0) (frame_ended (shifted_in r high) sccr scsr received)
    (receiving (shifted_in r high) scsr received)
    (λ _. with_level_lem r high i) (λ _. with_level_lem r high i))

looked_in : (r : Receiver) (sccr scsr received : ℕ) (high : Bool) → InReceiver r
    → ReceivingIn (looked r sccr scsr received high)
unfolding looked
looked_in r sccr scsr received high i =
    cond_both ReceivingIn (eqb r.left 0) (receiving (start_detected r sccr high) scsr received)
    (look_taken r sccr scsr received high)
    (λ _. start_detected_in r sccr high i) (λ _. look_taken_in r sccr scsr received high i)

half_in : (r : Receiver) (h : Bool) → InReceiver r → InReceiver (at_half r h)
half_in r h i = record { subinterval = i.subinterval; left = i.left; register = i.register }

hear_in : (r : Receiver) (sccr scsr received : ℕ) (high : Bool) → InReceiver r
    → ReceivingIn (receive_tick r sccr scsr received high)
unfolding receive_tick
hear_in r sccr scsr received high i =
    cond_both ReceivingIn r.half (looked (at_half r false) sccr scsr received high)
    (receiving (at_half r true) scsr received)
    (λ _. looked_in (at_half r false) sccr scsr received high (half_in r false i)) (λ _. half_in r true i)

at_rise_in : (r : Receiver) (high : Bool) → InReceiver r → InReceiver (shifted_at_rise r high)
unfolding shifted_at_rise with_level
at_rise_in r high i =
    let l : cond (eqb r.left 0) 8 r.left ≤ 11 =
    cond_both (λ (n : ℕ). n ≤ 11) (eqb r.left 0) 8 r.left (λ _. omega arith) (λ _. i.left) in
    let g = i.register in let d = one_where_le high in
    record { subinterval = i.subinterval; left = omega arith; register = omega arith }

rise_in : (r : Receiver) (scsr received : ℕ) (high : Bool) → InReceiver r
    → ReceivingIn (receive_rise r scsr received high)
unfolding receive_rise byte_ended kept_with
rise_in r scsr received high i =
    let next = shifted_at_rise r high in
    cond_both ReceivingIn (eqb next.left 0) (byte_ended next scsr received) (receiving next scsr received)
    (λ _. at_rise_in r high i) (λ _. at_rise_in r high i)

pub receiver_clock_fits : (r : Receiver) (ticks : Ticks) (rise : Bool) (sccr scsr received : ℕ) (high : Bool)
    → receiver_fits r ≡ true
    → receiver_fits (receiver_clock r ticks rise sccr scsr received high).receiver ≡ true
unfolding receiver_clock
receiver_clock_fits r ticks rise sccr scsr received high e =
    fits_receiver _ (cond_both ReceivingIn (not (eqb ticks.0 0) && receiver_asynchronous sccr)
    (receive_tick r sccr scsr received high) _
    (λ _. hear_in r sccr scsr received high (in_receiver r e))
    (λ _. cond_both ReceivingIn (rise && receiver_shifting sccr) (receive_rise r scsr received high)
    (receiving r scsr received)
    (λ _. rise_in r scsr received high (in_receiver r e)) (λ _. in_receiver r e)))

pub receiver_under_fits : (old sccr : ℕ) (r : Receiver) → receiver_fits r ≡ true
    → receiver_fits (receiver_with_sccr old sccr r) ≡ true
unfolding receiver_with_sccr
receiver_under_fits old sccr r e =
    cond_both (λ (u : Receiver). receiver_fits u ≡ true) (keeps_receiver old sccr) r idle_receiver (λ _. e) (λ _. refl)
