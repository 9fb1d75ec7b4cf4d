-- The transmitter over ticks that cannot be seen.
use mathlib.Core.Path.{◌≡◌, refl, sym, ap, ◌∙◌}
use mathlib.Core.Bool.{Bool, true, false, ◌&&◌, not, cond, false≢true}
use Prim.Native.Nat.{ℕ, suc, ◌+◌, ◌-◌, ◌%◌, ◌≤◌, ◌<◌}
use native.Mathlib.Nat.{add-zero, mod-eq_of_lt}
use native.Mathlib.Omega.{arith}
use lib.Dec.{eqb}
use borrow.Author.Tests.{lt-ltb, ne_eqb}
use Rattle.bits.specs.Bits.{bit, with_bit}
use Rattle.counters.specs.Counters.{ticks_of}
use Rattle.serial_transmitter.specs.declared.Transmitter.{Transmitter}
use Rattle.serial_format.specs.Format.{pace}
use Rattle.serial_transmitter.specs.Transmitter.{sending, idle_tick, next_phase, ticked, bit_tick, send_tick, transmitter_clock, line}
use Rattle.r6501q_state.specs.Pins.{with_shift_clock}
use Rattle.r6501q_unseen.specs.Ticks.{most_ticks, unseen_sends, at_phase, sends, sent_after}

-- a phase that does not wrap
phase_next : (phase : ℕ) → 0 < 15 - phase → next_phase phase ≡ phase + 1
unfolding next_phase
phase_next phase h = rw (lt-ltb phase 15 (omega arith))

phase_odd : (phase : ℕ) → 0 < 15 - phase → eqb ((phase + 1) % 16) 0 ≡ false
phase_odd phase h =
    let e : (phase + 1) % 16 ≡ phase + 1 = mod-eq_of_lt (omega arith) in
    rw e (ne_eqb (phase + 1) 0 (λ z. omega arith))

-- one tick
pub send_tick_lem : (t : Transmitter) (sccr scsr sent : ℕ) → 0 < unseen_sends t sccr scsr
    → transmitter_clock t (ticks_of true) sccr scsr sent ≡ sending (sent_after 1 t sccr) scsr
unfolding transmitter_clock ticks_of unseen_sends sent_after send_tick idle_tick bit_tick ticked pace
send_tick_lem t sccr scsr sent = by_tests (bit 7 sccr) (eqb t.left 0) (bit 6 scsr) (bit 5 sccr) refl refl refl refl
  where
    by_tests : (on none empty shifts : Bool) → bit 7 sccr ≡ on → eqb t.left 0 ≡ none → bit 6 scsr ≡ empty
        → bit 5 sccr ≡ shifts
        → 0 < unseen_sends t sccr scsr
        → transmitter_clock t (ticks_of true) sccr scsr sent ≡ sending (sent_after 1 t sccr) scsr
    by_tests false none empty shifts e f g s h = rw e
    by_tests true true true shifts e f g s h = rw (e, f, g)
    by_tests true true false shifts e f g s h = let k : 0 < 0 = rw (e, f, g) at h in absurd (omega arith)
    by_tests true false empty true e f g s h = let k : 0 < 0 = rw (e, f, s) at h in absurd (omega arith)
    by_tests true false empty false e f g s h =
        let k : 0 < 15 - t.phase = rw (e, f, s) at h in
        rw (e, f, s, phase_next t.phase k, phase_odd t.phase k, f)

-- one tick fewer is left
pub send_less : (t : Transmitter) (sccr scsr : ℕ) → 0 < unseen_sends t sccr scsr
    → unseen_sends t sccr scsr ≤ suc (unseen_sends (sent_after 1 t sccr) sccr scsr)
unfolding unseen_sends sent_after
send_less t sccr scsr = by_tests (bit 7 sccr) (eqb t.left 0) (bit 5 sccr) refl refl refl
  where
    by_tests : (on none shifts : Bool) → bit 7 sccr ≡ on → eqb t.left 0 ≡ none → bit 5 sccr ≡ shifts
        → 0 < unseen_sends t sccr scsr → unseen_sends t sccr scsr ≤ suc (unseen_sends (sent_after 1 t sccr) sccr scsr)
    by_tests false none shifts e f s h = rw e (omega arith)
    by_tests true true shifts e f s h = rw (e, f, f) (omega arith)
    by_tests true false true e f s h = rw (e, f, s) (omega arith)
    by_tests true false false e f s h = rw (e, f, s, f) (omega arith)

-- one tick and n are n + 1
pub send_more : (n : ℕ) (t : Transmitter) (sccr : ℕ) → sent_after n (sent_after 1 t sccr) sccr ≡ sent_after (suc n) t sccr
unfolding sent_after
send_more n t sccr = by_test (bit 7 sccr && not (eqb t.left 0)) refl
  where
    by_test : (b : Bool) → (bit 7 sccr && not (eqb t.left 0)) ≡ b
        → sent_after n (sent_after 1 t sccr) sccr ≡ sent_after (suc n) t sccr
    by_test true e = let d : t.phase + 1 + n ≡ t.phase + suc n = omega arith in rw (e, e, d)
    by_test false e = rw (e, e)

pub send_none : (t : Transmitter) (sccr : ℕ) → sent_after 0 t sccr ≡ t
unfolding sent_after
send_none t sccr = by_test (bit 7 sccr && not (eqb t.left 0))
  where
    by_test : (b : Bool) → cond b (at_phase t (t.phase + 0)) t ≡ t
    by_test true = rw (add-zero t.phase)
    by_test false = refl

-- what it drives of port A stays
abbrev pub driven : Transmitter → ℕ → ℕ → ℕ
driven t sccr a = cond (bit 7 sccr) (with_shift_clock sccr t (with_bit 6 (line t) a)) a

pub send_drive : (n : ℕ) (t : Transmitter) (sccr scsr a : ℕ) → n ≤ unseen_sends t sccr scsr
    → driven (sent_after n t sccr) sccr a ≡ driven t sccr a
unfolding unseen_sends sent_after line
send_drive n t sccr scsr a = by_tests (bit 7 sccr) (eqb t.left 0) (bit 5 sccr) refl refl refl
  where
    by_tests : (on none shifts : Bool) → bit 7 sccr ≡ on → eqb t.left 0 ≡ none → bit 5 sccr ≡ shifts
        → n ≤ unseen_sends t sccr scsr → driven (sent_after n t sccr) sccr a ≡ driven t sccr a
    by_tests false none shifts e f s h = rw e
    by_tests true true shifts e f s h = rw (e, f, f)
    by_tests true false true e f s h =
        let k : n ≤ 0 = rw (e, f, s) at h in
        let z : n ≡ 0 = omega arith in
        rw z (ap (λ (x : Transmitter). driven x sccr a) (send_none t sccr))
    by_tests true false false e f s h = rw (e, f, s, f)

-- ticks with bits left do not wrap the phase
pub sends_within : (ticks : ℕ) (t : Transmitter) (sccr scsr : ℕ) → ticks ≤ unseen_sends t sccr scsr → sends t sccr ≡ true
    → ticks ≤ 15 - t.phase
unfolding unseen_sends
sends_within ticks t sccr scsr = by_tests (bit 7 sccr) (eqb t.left 0) (bit 5 sccr) refl refl refl
  where
    by_tests : (on none shifts : Bool) → bit 7 sccr ≡ on → eqb t.left 0 ≡ none → bit 5 sccr ≡ shifts
        → ticks ≤ unseen_sends t sccr scsr → sends t sccr ≡ true → ticks ≤ 15 - t.phase
    by_tests false none shifts e f s h k = absurd (false≢true (sym (rw e refl) ∙ k))
    by_tests true true shifts e f s h k = absurd (false≢true (sym (rw (e, f) refl) ∙ k))
    by_tests true false true e f s h k = let z : ticks ≤ 0 = rw (e, f, s) at h in omega arith
    by_tests true false false e f s h k = rw (e, f, s) at h

pub sends_most : (t : Transmitter) (sccr scsr : ℕ) → unseen_sends t sccr scsr ≤ most_ticks
unfolding unseen_sends
sends_most t sccr scsr = by_tests (bit 7 sccr) (eqb t.left 0) (bit 6 scsr) (bit 5 sccr)
  where
    by_tests : (on none empty shifts : Bool)
        → cond on (cond none (cond empty most_ticks 0) (cond shifts 0 (15 - t.phase))) most_ticks ≤ most_ticks
    by_tests false none empty shifts = omega arith
    by_tests true true true shifts = omega arith
    by_tests true true false shifts = omega arith
    by_tests true false empty true = omega arith
    by_tests true false empty false = omega arith
