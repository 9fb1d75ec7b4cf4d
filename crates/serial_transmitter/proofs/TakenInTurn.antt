-- 02, U1: "The frame and shift rules share one statement about bits taken in turn." Of any bits, at either pace: 16
-- ticks a bit in an asynchronous frame, 2 in a byte in shift-register mode.
use mathlib.Core.Path.{◌≡◌, refl, ap, ◌∙◌, sym, subst}
use mathlib.Core.Logic.{◌≢◌}
use mathlib.Core.Bool.{Bool, true, false, cond}
use mathlib.Core.List.{List, [], ◌∷◌}
use Prim.Native.Nat.{ℕ, zero, suc, ◌+◌, ◌-◌, ◌*◌, ◌/◌, ◌%◌, ◌^◌, ◌≤◌, ◌<◌}
use native.Mathlib.Nat.{not-suc-le-zero, le_of_suc-le-suc}
use native.Mathlib.Omega.{arith}
use lib.Dec.{eqb, ltb}
use lib.ListN.{length, drop, get_or, length-drop, drop_of_length-le}
use borrow.Author.Tests.{ltb-true, ltb-false, eqb-true, eqb-false, eq-eqb, ne_eqb}
use Rattle.bits.specs.Bits.{bit, with_bit}
use Rattle.bits.specs.Lists.{bits_of, number_of_bits}
use Rattle.bits.proofs.Cond.{one_where_le}
use Rattle.serial_transmitter.specs.declared.Transmitter.{Transmitter}
use Rattle.serial_transmitter.specs.declared.Sending.{Sending}
use Rattle.serial_format.specs.Format.{transmitter_shifts, frame_bits, pace_in, pace}
use Rattle.serial_transmitter.specs.Transmitter.{sent_bits}
use Rattle.serial_transmitter.specs.Transmitter.{sending, framed, taken, frame_end, next_phase, ticked, bit_tick, send_tick, line}
use Rattle.serial_transmitter.specs.Transmitter.{shift_clock}

-- a transmitter that has these bits to send, the first one on the line
abbrev pub sending_bits : List Bool → ℕ → Transmitter
sending_bits bits phase = record { left = length bits; phase = phase; register = number_of_bits bits }

abbrev pub ticked_for : ℕ → ℕ → Transmitter → Transmitter
ticked_for zero ticks t = t
ticked_for (suc n) ticks t = ticked ticks (ticked_for n ticks t)

-- ---- one tick

next_phase_lem : (m : ℕ) → next_phase (m % 16) ≡ suc m % 16
unfolding next_phase
next_phase_lem m = by_test (ltb (m % 16) 15) refl
  where
    by_test : (t : Bool) → ltb (m % 16) 15 ≡ t → cond t (m % 16 + 1) 0 ≡ suc m % 16
    by_test true e = let h = ltb-true (m % 16) 15 e in omega arith
    by_test false e = let h = ltb-false (m % 16) 15 e in omega arith

next_ends : (shifts : Bool) (m : ℕ) → suc m % 16 % pace_in shifts ≡ suc m % pace_in shifts
next_ends true m = omega arith
next_ends false m = omega arith

without_first : (b : Bool) (bits : List Bool) → number_of_bits (b ∷ bits) / 2 ≡ number_of_bits bits
without_first b bits = let d = one_where_le b in omega arith

one_fewer : (n : ℕ) → suc n - 1 ≡ n
one_fewer n = omega arith

some_left : (n : ℕ) → eqb (suc n) 0 ≡ false
some_left n = ne_eqb (suc n) 0 (λ e. omega arith)

-- the tick after m ticks, with bits left
one_tick : (shifts : Bool) (m : ℕ) (b : Bool) (bits : List Bool)
    → ticked (pace_in shifts) (sending_bits (b ∷ bits) (m % 16))
    ≡ cond (eqb (suc m % pace_in shifts) 0) (sending_bits bits (suc m % 16)) (sending_bits (b ∷ bits) (suc m % 16))
unfolding ticked
one_tick shifts m b bits = rw (next_phase_lem m, next_ends shifts m, without_first b bits, one_fewer)

-- ---- any number of ticks

first_of : (bits : List Bool) (k : ℕ) → k < length bits → drop k bits ≡ get_or bits k true ∷ drop (suc k) bits
first_of [] k h = absurd (not-suc-le-zero h)
first_of (b ∷ bits) zero h = refl
first_of (b ∷ bits) (suc k) h = first_of bits k (le_of_suc-le-suc h)

place_lt : (shifts : Bool) (m n : ℕ) → m < n * pace_in shifts → m / pace_in shifts < n
place_lt true m n h = omega arith
place_lt false m n h = omega arith

place_next : (shifts : Bool) (m : ℕ) → suc m % pace_in shifts ≡ 0 → suc m / pace_in shifts ≡ suc (m / pace_in shifts)
place_next true m e = omega arith
place_next false m e = omega arith

place_same : (shifts : Bool) (m : ℕ) → suc m % pace_in shifts ≢ 0 → suc m / pace_in shifts ≡ m / pace_in shifts
place_same true m e = omega arith
place_same false m e = omega arith

-- m ticks from a start, as many as the bits last or fewer
pub after_ticks : (shifts : Bool) (bits : List Bool) (m : ℕ) → m ≤ length bits * pace_in shifts
    → ticked_for m (pace_in shifts) (sending_bits bits 0) ≡ sending_bits (drop (m / pace_in shifts) bits) (m % 16)
after_ticks true bits zero h = refl
after_ticks false bits zero h = refl
after_ticks shifts bits (suc m) h =
    let here = after_ticks shifts bits m (omega arith) in
    let first = first_of bits (m / pace_in shifts) (place_lt shifts m (length bits) h) in
    ap (ticked (pace_in shifts)) (here ∙ ap (λ l. sending_bits l (m % 16)) first)
    ∙ one_tick shifts m (get_or bits (m / pace_in shifts) true) (drop (suc (m / pace_in shifts)) bits)
    ∙ by_end (eqb (suc m % pace_in shifts) 0) refl first
  where
    by_end : (t : Bool) → eqb (suc m % pace_in shifts) 0 ≡ t
        → drop (m / pace_in shifts) bits ≡ get_or bits (m / pace_in shifts) true ∷ drop (suc (m / pace_in shifts)) bits
        → cond t (sending_bits (drop (suc (m / pace_in shifts)) bits) (suc m % 16))
        (sending_bits (get_or bits (m / pace_in shifts) true ∷ drop (suc (m / pace_in shifts)) bits) (suc m % 16))
        ≡ sending_bits (drop (suc m / pace_in shifts) bits) (suc m % 16)
    by_end true e f = rw (place_next shifts m (eqb-true _ _ e))
    by_end false e f = rw (place_same shifts m (eqb-false _ _ e), f)

-- ---- the statement

place_of : (shifts : Bool) (k j : ℕ) → j < pace_in shifts → (k * pace_in shifts + j) / pace_in shifts ≡ k
place_of true k j h = omega arith
place_of false k j h = omega arith

within : (shifts : Bool) (n k j : ℕ) → k < n → j < pace_in shifts → k * pace_in shifts + j < n * pace_in shifts
within true n k j h g = omega arith
within false n k j h g = omega arith

-- Bits taken in turn: k bits and j ticks from the start the first k bits are gone, whatever they were.
pub taken_in_turn : (shifts : Bool) (bits : List Bool) (k j : ℕ) → k < length bits → j < pace_in shifts
    → ticked_for (k * pace_in shifts + j) (pace_in shifts) (sending_bits bits 0)
    ≡ sending_bits (drop k bits) ((k * pace_in shifts + j) % 16)
taken_in_turn shifts bits k j h g =
    after_ticks shifts bits (k * pace_in shifts + j) (let w = within shifts (length bits) k j h g in omega arith)
    ∙ ap (λ n. sending_bits (drop n bits) ((k * pace_in shifts + j) % 16)) (place_of shifts k j g)

-- "bits left" is then as many fewer, and bit k is on the line
pub left_in_turn : (bits : List Bool) (k phase : ℕ) → (sending_bits (drop k bits) phase).left ≡ length bits - k
left_in_turn bits k phase = length-drop k bits

lowest : (b : Bool) (bits : List Bool) → bit 0 (number_of_bits (b ∷ bits)) ≡ b
lowest true bits = eq-eqb (number_of_bits (true ∷ bits) / 2 ^ 0 % 2) 1 (omega arith)
lowest false bits = ne_eqb (number_of_bits (false ∷ bits) / 2 ^ 0 % 2) 1 (λ e. omega arith)

pub line_in_turn : (bits : List Bool) (k phase : ℕ) → k < length bits
    → line (sending_bits (drop k bits) phase) ≡ get_or bits k true
unfolding line
line_in_turn bits k phase h = rw (first_of bits k h, some_left, lowest)

-- no bit is left once all have had their ticks
pub all_in_turn : (shifts : Bool) (bits : List Bool)
    → ticked_for (length bits * pace_in shifts) (pace_in shifts) (sending_bits bits 0)
    ≡ sending_bits [] (length bits * pace_in shifts % 16)
all_in_turn shifts bits =
    after_ticks shifts bits (length bits * pace_in shifts) (omega arith)
    ∙ ap (λ l. sending_bits l (length bits * pace_in shifts % 16)) (drop_of_length-le bits (over shifts (length bits)))
  where
    over : (shifts : Bool) (n : ℕ) → n ≤ n * pace_in shifts / pace_in shifts
    over true n = omega arith
    over false n = omega arith

-- the shift clock of each bit is low, then high
pub clock_in_turn : (bits : List Bool) (k j : ℕ) → k < length bits → j < 2
    → shift_clock (sending_bits (drop k bits) ((k * 2 + j) % 16)) ≡ eqb j 1
unfolding shift_clock
clock_in_turn bits k j h g = rw (first_of bits k h, some_left) (low_high j g)
  where
    low_high : (j : ℕ) → j < 2 → eqb ((k * 2 + j) % 16 % 2) 1 ≡ eqb j 1
    low_high j g = let e : (k * 2 + j) % 16 % 2 ≡ j = omega arith in rw e

-- ---- the transmitter

-- n ticks of a transmitter that is on; what SCSR holds and which byte waits may be another at each tick
abbrev pub sent_for : ℕ → ℕ → (ℕ → ℕ) → (ℕ → ℕ) → Transmitter → Transmitter
sent_for zero sccr scsr byte t = t
sent_for (suc n) sccr scsr byte t = (send_tick (sent_for n sccr scsr byte t) sccr (scsr n) (byte n)).transmitter

-- a tick with bits left afterwards does nothing else: SCSR stays
pub more_left : (t : Transmitter) (sccr scsr byte : ℕ) → t.left ≢ 0 → (ticked (pace sccr) t).left ≢ 0
    → send_tick t sccr scsr byte ≡ sending (ticked (pace sccr) t) scsr
unfolding send_tick bit_tick
more_left t sccr scsr byte h g = rw (ne_eqb t.left 0 h, ne_eqb (ticked (pace sccr) t).left 0 g)

-- a tick that leaves none ends the frame
pub none_left : (t : Transmitter) (sccr scsr byte : ℕ) → t.left ≢ 0 → (ticked (pace sccr) t).left ≡ 0
    → send_tick t sccr scsr byte ≡ frame_end (ticked (pace sccr) t) sccr scsr byte
unfolding send_tick bit_tick
none_left t sccr scsr byte h g = rw (ne_eqb t.left 0 h, eq-eqb (ticked (pace sccr) t).left 0 g)

-- before the last tick bits are left
left_after : (sccr : ℕ) (bits : List Bool) (m : ℕ) → m < length bits * pace sccr
    → (ticked_for m (pace sccr) (sending_bits bits 0)).left ≢ 0
unfolding pace
left_after sccr bits m h e =
    let a = ap (λ (t : Transmitter). t.left) (after_ticks (transmitter_shifts sccr) bits m (omega arith)) in
    let l = length-drop (m / pace_in (transmitter_shifts sccr)) bits in
    let p = place_lt (transmitter_shifts sccr) m (length bits) h in
    omega (arith, a, l, p, e)

module _ (sccr : ℕ) (scsr byte : ℕ → ℕ) where
  -- m ticks of a transmitter that began with these bits, fewer than they last
  pub sends_in_turn : (bits : List Bool) (m : ℕ) → m < length bits * pace sccr
      → sent_for m sccr scsr byte (sending_bits bits 0) ≡ ticked_for m (pace sccr) (sending_bits bits 0)
  sends_in_turn bits zero h = refl
  sends_in_turn bits (suc m) h =
      let before = left_after sccr bits m (omega arith) in
      ap (λ (t : Transmitter). (send_tick t sccr (scsr m) (byte m)).transmitter) (sends_in_turn bits m (omega arith))
      ∙ ap (λ (s : Sending). s.transmitter)
      (more_left (ticked_for m (pace sccr) (sending_bits bits 0)) sccr (scsr m) (byte m) before
      (left_after sccr bits (suc m) h))

  -- so k bits and j ticks from the start bit k is on the line
  pub sent_in_turn : (bits : List Bool) (k j : ℕ) → k < length bits → j < pace sccr
      → sent_for (k * pace sccr + j) sccr scsr byte (sending_bits bits 0)
      ≡ sending_bits (drop k bits) ((k * pace sccr + j) % 16)
  unfolding pace
  sent_in_turn bits k j h g =
      sends_in_turn bits (k * pace sccr + j) (within (transmitter_shifts sccr) (length bits) k j h g)
      ∙ taken_in_turn (transmitter_shifts sccr) bits k j h g

  -- and the last tick ends the frame, by what SCSR and the waiting byte are then
  pub ended_in_turn : (bits : List Bool) (m : ℕ) → suc m ≡ length bits * pace sccr
      → send_tick (sent_for m sccr scsr byte (sending_bits bits 0)) sccr (scsr m) (byte m)
      ≡ frame_end (sending_bits [] (suc m % 16)) sccr (scsr m) (byte m)
  unfolding pace
  ended_in_turn bits m e =
      let all : ticked_for (suc m) (pace sccr) (sending_bits bits 0) ≡ sending_bits [] (suc m % 16) =
      subst (λ n. ticked_for n (pace sccr) (sending_bits bits 0) ≡ sending_bits [] (n % 16)) (sym e)
      (all_in_turn (transmitter_shifts sccr) bits) in
      let before = left_after sccr bits m (omega arith) in
      ap (λ (t : Transmitter). send_tick t sccr (scsr m) (byte m)) (sends_in_turn bits m (omega arith))
      ∙ none_left (ticked_for m (pace sccr) (sending_bits bits 0)) sccr (scsr m) (byte m) before
      (ap (λ (t : Transmitter). t.left) all)
      ∙ ap (λ t. frame_end t sccr (scsr m) (byte m)) all

-- "None left: it takes the next data that tick, or sets SCSR7"; 001, 5.1: "the SO output and shift clock are held in a
-- high state"
pub end_takes : (t : Transmitter) (sccr scsr byte : ℕ) → bit 6 scsr ≡ false
    → frame_end t sccr scsr byte ≡ sending (sending_bits (sent_bits sccr byte) 0) (with_bit 7 false (with_bit 6 true scsr))
unfolding frame_end taken framed
end_takes t sccr scsr byte e = rw e

pub end_under_runs : (t : Transmitter) (sccr scsr byte : ℕ) → bit 6 scsr ≡ true
    → frame_end t sccr scsr byte ≡ sending t (with_bit 7 true scsr)
unfolding frame_end
end_under_runs t sccr scsr byte e = rw e

pub lines_high : (phase : ℕ) → (line (sending_bits [] phase) ≡ true) × (shift_clock (sending_bits [] phase) ≡ true)
unfolding line shift_clock
lines_high phase = (refl, refl)

-- ---- the two instances, from the take on

module _ (sccr : ℕ) (scsr next : ℕ → ℕ) (byte : ℕ) where
  -- what is sent, and the pace, by the mode
  begun : (p k j : ℕ) (bits : List Bool) → sent_bits sccr byte ≡ bits → pace sccr ≡ p → k < length bits → j < p
      → sent_for (k * p + j) sccr scsr next (framed sccr byte) ≡ sending_bits (drop k bits) ((k * p + j) % 16)
  unfolding framed
  begun p k j bits e f h g =
      ap (λ l. sent_for (k * p + j) sccr scsr next (sending_bits l 0)) e
      ∙ subst (λ q. j < q
      → sent_for (k * q + j) sccr scsr next (sending_bits bits 0) ≡ sending_bits (drop k bits) ((k * q + j) % 16))
      f (sent_in_turn sccr scsr next bits k j h) g

  -- an asynchronous frame: 16 ticks a bit
  pub frame_sent : (k j : ℕ) → transmitter_shifts sccr ≡ false → k < length (frame_bits sccr byte) → j < 16
      → sent_for (k * 16 + j) sccr scsr next (framed sccr byte) ≡ sending_bits (drop k (frame_bits sccr byte)) j
  unfolding sent_bits pace
  frame_sent k j e h g =
      let phase : (k * 16 + j) % 16 ≡ j = omega arith in
      begun 16 k j (frame_bits sccr byte) (rw e) (rw e) h g
      ∙ ap (λ n. sending_bits (drop k (frame_bits sccr byte)) n) phase

  -- a byte in shift-register mode: 2 ticks a bit; `clock_in_turn` has the shift clock
  pub byte_sent : (k j : ℕ) → transmitter_shifts sccr ≡ true → k < 8 → j < 2
      → sent_for (k * 2 + j) sccr scsr next (framed sccr byte) ≡ sending_bits (drop k (bits_of 8 byte)) (k * 2 + j)
  unfolding sent_bits pace
  byte_sent k j e h g =
      let phase : (k * 2 + j) % 16 ≡ k * 2 + j = omega arith in
      begun 2 k j (bits_of 8 byte) (rw e) (rw e) h g
      ∙ ap (λ n. sending_bits (drop k (bits_of 8 byte)) n) phase
