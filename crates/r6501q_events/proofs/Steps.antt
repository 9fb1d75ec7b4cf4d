-- The tests of an event clock say what the clock does: the underflows are those of step 2, and in step 4 the CPU
-- starts, or puts a byte, just where it is said to.
use Rattle.std.specs.Prelude.{Some}
use mathlib.Core.Path.{◌≡◌, refl, ◌∙◌}
use mathlib.Core.Bool.{Bool, true, false, ◌&&◌}
use mathlib.Core.List.{List}
use Prim.Native.Nat.{ℕ}
use native.Mathlib.Omega.{arith}
use lib.Dec.{eqb}
use borrow.Author.Tests.{eqb-true, eqb-false, lt-ltb, le-ltb}
use Rattle.bits.specs.Bits.{set_where}
use Rattle.counters.specs.Counters.{ticks_of}
use Rattle.bits.proofs.Cond.{and_left, and_right}
use Rattle.cpu_access.specs.declared.stack.Write.{Write}
use Rattle.cpu_access.specs.Waiting.{byte_waits}
use Rattle.r6501q_state.specs.declared.state.State.{State}
use Rattle.r6501q_state.specs.Copies.{with_wait}
use Rattle.std.specs.Prelude.{Ok}
use Rattle.r6501q_clock.specs.Clock.{count_a, count_b, with_peripherals_clock}
use Rattle.r6501q_cpu.specs.Processor.{processor_of, start_of, byte_put, without_writes}
use Rattle.r6501q_events.specs.Events.{underflows_a, underflows_b, cpu_starts, puts_byte}
use Rattle.r6501q_events.specs.Gaps.{clocks_of, wait_after}
use Rattle.r6501q_cpu.proofs.Stores.{clock_waits, waited_less}

-- `s` is the state that step 1 leaves, `before` are the port levels before it
module _ (before : ℕ) (s : State) where
  -- IFR4 and the clock's tick
  pub step_a_lem : (count_a s.peripherals before s.last.ports).ticks ≡ ticks_of (underflows_a before s)
  unfolding count_a underflows_a
  step_a_lem = refl

  pub flag_a : (count_a s.peripherals before s.last.ports).peripherals.control.ifr
      ≡ set_where 4 (underflows_a before s) s.peripherals.control.ifr
  unfolding count_a underflows_a
  flag_a = refl

  -- IFR5, once A's part of step 2 is done
  pub flag_b : (count_b (count_a s.peripherals before s.last.ports).peripherals before
      s.last.ports).control.ifr
      ≡ set_where 5 (underflows_b before s) (count_a s.peripherals before s.last.ports).peripherals.control.ifr
  unfolding count_a count_b underflows_b
  flag_b = refl

  -- the CPU starts, or it puts a byte, or it only waits
  pub step_start : (memory : List ℕ) → cpu_starts s ≡ true
      → processor_of (with_peripherals_clock before s) memory ≡ start_of (with_peripherals_clock before s) memory
  unfolding processor_of cpu_starts
  step_start memory e =
      let res = and_left s.last.res _ e in
      let over = eqb-true s.cpu.wait 0 (and_right s.last.res _ e) in
      rw (res, le-ltb 0 s.cpu.wait (omega arith))

  pub step_put : (memory : List ℕ) (w : Write) → s.cpu.waiting ≡ Some w → puts_byte s ≡ true
      → processor_of (with_peripherals_clock before s) memory ≡ Ok (byte_put (with_peripherals_clock before s) w)
  unfolding processor_of puts_byte
  step_put memory w waits e =
      let last = and_right (s.last.res && byte_waits s.cpu.waiting) _ e in
      let res = and_left s.last.res _ (and_left (s.last.res && byte_waits s.cpu.waiting) _ e) in
      let one = eqb-true s.cpu.wait 1 last in
      rw (res, lt-ltb 0 s.cpu.wait (omega arith), waits, last)

  pub step_waits : (memory : List ℕ) → cpu_starts s ≡ false → puts_byte s ≡ false
      → processor_of (with_peripherals_clock before s) memory
      ≡ without_writes (with_wait (with_peripherals_clock before s) (wait_after s.cpu.wait s.last.res (clocks_of 1)))
  unfolding processor_of cpu_starts puts_byte wait_after
  step_waits memory = by_res s.last.res refl
    where
      t : State
      t = with_peripherals_clock before s

      by_res : (r : Bool) → s.last.res ≡ r → (s.last.res && eqb s.cpu.wait 0) ≡ false
          → (s.last.res && byte_waits s.cpu.waiting && eqb s.cpu.wait 1) ≡ false
          → processor_of t memory ≡ without_writes (with_wait t (wait_after s.cpu.wait s.last.res (clocks_of 1)))
      by_res true e f g =
          let some = eqb-false s.cpu.wait 0 (rw e at f) in
          clock_waits t memory e (omega arith) ∙ waited_less t (rw e at g) ∙ rw e refl
      by_res false e f g = rw e
