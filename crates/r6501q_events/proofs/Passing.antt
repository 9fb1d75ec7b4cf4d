-- Gaps passed add up, and what a gap passed leaves as it was.
use mathlib.Core.Path.{◌≡◌, refl}
use mathlib.Core.Bool.{Bool, true, false, ◌&&◌}
use Prim.Native.Nat.{ℕ, ◌+◌, ◌-◌, ◌≤◌}
use native.Mathlib.Nat.{add-zero, add_assoc}
use native.Mathlib.Omega.{arith}
use lib.Dec.{leb, eqb}
use borrow.Author.Tests.{leb-true, le-leb, eqb-false, ne_eqb}
use Rattle.bits.specs.Bits.{one_where}
use Rattle.cpu_access.specs.Waiting.{byte_waits}
use Rattle.counters.specs.declared.a.CounterA.{CounterA}
use Rattle.counters.specs.declared.b.CounterB.{CounterB}
use Rattle.counters.specs.Counters.{pass_a, pass_b}
use Rattle.counters.proofs.Gaps.{pass_add_a, pass_add_b}
use Rattle.r6501q_state.specs.declared.state.State.{State}
use Rattle.r6501q_state.specs.State.{well_formed}
use Rattle.r6501q_state.specs.Pins.{drive_a, drive_d, driven_word, levels_of}
use Rattle.r6501q_state.proofs.Ranges.{formed, formed_cpu, formed_peripherals, in_cpu, fit_cpu}
use Rattle.r6501q_events.specs.Events.{levels_change, is_reset, reset_changes}
use Rattle.r6501q_events.specs.Gaps.{clocks_of, until_cpu, wait_after, pass_of}

-- "clock plus gap"
pub pass_clock : (s : State) (g : ℕ) → (pass_of s (clocks_of g)).clock ≡ s.clock + g
unfolding pass_of
pass_clock s g = refl

-- the driven word does not change, nor do the levels
pub pass_driven : (s : State) (g : ℕ) → driven_word (pass_of s (clocks_of g)).peripherals ≡ driven_word s.peripherals
unfolding pass_of driven_word drive_a drive_d
pass_driven s g = refl

pub pass_change : (s : State) (g : ℕ) → levels_change (pass_of s (clocks_of g)) ≡ levels_change s
unfolding pass_of levels_change levels_of driven_word drive_a drive_d
pass_change s g = refl

-- nor does what RES low would change: with RES low the wait stays
pub pass_reset : (s : State) (g : ℕ) → reset_changes (pass_of s (clocks_of g)) ≡ reset_changes s
unfolding pass_of reset_changes is_reset wait_after
pass_reset s g = by_res s.last.res refl
  where
    by_res : (r : Bool) → s.last.res ≡ r → reset_changes (pass_of s (clocks_of g)) ≡ reset_changes s
    by_res true e = rw e
    by_res false e = rw e

-- ---- gaps passed add up

wait_zero : (wait : ℕ) (high : Bool) → wait_after wait high (clocks_of 0) ≡ wait
unfolding wait_after
wait_zero wait true = omega arith
wait_zero wait false = refl

wait_add : (wait : ℕ) (high : Bool) (g h : ℕ)
    → wait_after (wait_after wait high (clocks_of g)) high (clocks_of h) ≡ wait_after wait high (clocks_of (g + h))
unfolding wait_after
wait_add wait true g h = omega arith
wait_add wait false g h = refl

pub zero_a : (c : CounterA) (counting : Bool) → pass_a c counting (clocks_of 0) ≡ c
unfolding pass_a
zero_a c true = let e : c.count - 0 ≡ c.count = omega arith in rw e
zero_a c false = refl

pub zero_b : (c : CounterB) (counting : Bool) → pass_b c counting (clocks_of 0) ≡ c
unfolding pass_b
zero_b c true = let e : c.count - 0 ≡ c.count = omega arith in rw e
zero_b c false = refl

pub pass_zero : (s : State) → pass_of s (clocks_of 0) ≡ s
unfolding pass_of
pass_zero s = rw (wait_zero, zero_a, zero_b, add-zero)

pub pass_add : (s : State) (g h : ℕ) → pass_of (pass_of s (clocks_of g)) (clocks_of h) ≡ pass_of s (clocks_of (g + h))
unfolding pass_of
pass_add s g h = rw (wait_add, pass_add_a, pass_add_b, add_assoc)

-- ---- a well-formed state stays well-formed, as long as the CPU does not act

wait_fits : (wait : ℕ) (high : Bool) (g : ℕ) → leb wait 6 ≡ true → leb (wait_after wait high (clocks_of g)) 6 ≡ true
unfolding wait_after
wait_fits wait true g e = let h = leb-true wait 6 e in le-leb (wait - g) 6 (omega arith)
wait_fits wait false g e = e

still_waits : (b high : Bool) (wait g : ℕ) → (high ≡ true → g ≤ wait - one_where b) → (b && eqb wait 0) ≡ false
    → (b && eqb (wait_after wait high (clocks_of g)) 0) ≡ false
unfolding wait_after
still_waits true true wait g h e =
    let k = h refl in let some = eqb-false wait 0 e in ne_eqb (wait - g) 0 (λ z. omega arith)
still_waits true false wait g h e = e
still_waits false high wait g h e = refl

pub pass_formed : (s : State) (g : ℕ) → (s.last.res ≡ true → g ≤ until_cpu s.cpu) → well_formed s ≡ true
    → well_formed (pass_of s (clocks_of g)) ≡ true
unfolding pass_of until_cpu
pass_formed s g h e =
    let c = in_cpu s.cpu (formed_cpu s e) in
    let high = s.last.res in
    formed (pass_of s (clocks_of g))
    (fit_cpu (pass_of s (clocks_of g)).cpu (record {
      status = c.status;
      wait = wait_fits s.cpu.wait high g c.wait;
      waits = still_waits (byte_waits s.cpu.waiting) high s.cpu.wait g h c.waits;
    }))
    (formed_peripherals s e)
