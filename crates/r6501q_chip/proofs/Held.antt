-- 02, U8: "A fresh chip with no inputs stays without a CPU start for any n that fits the clock, its counters still
-- counting, and leaping agrees there too.": plain clocks, and their event clocks.
use Rattle.std.specs.Prelude.{Option}
use mathlib.Core.Path.{◌≡◌, refl, sym, ap, ◌∙◌}
use mathlib.Core.Bool.{Bool, true, false, ◌&&◌, ◌||◌, not, cond}
use mathlib.Core.List.{List, [], ◌∷◌}
use Prim.Native.Nat.{ℕ, zero, suc, ◌+◌, ◌-◌, ◌/◌, ◌%◌, ◌<◌}
use native.Mathlib.Omega.{arith}
use lib.Dec.{ltb, eqb}
use borrow.Author.Tests.{ltb-true, ltb-false, lt-ltb, le-ltb, eqb-true, eqb-false, eq-eqb, ne_eqb}
use Rattle.bits.specs.Bits.{one_where, with_bit, set_where, flip_where}
use Rattle.pin_lists.specs.PinLists.{input_count}
use Rattle.counters.specs.Counters.{ticks_of, in_force, down_a, counts_a, clock_a, counts_through_a, reload_b, down_b, clock_b}
use Rattle.counters.specs.Counters.{counts_through_b}
use Rattle.serial_format.specs.Format.{transmitter_asynchronous, receiver_asynchronous, receiver_shifting, holds_a}
use Rattle.serial_receiver.specs.Receiver.{receiver_clock}
use Rattle.serial_transmitter.specs.Transmitter.{transmitter_clock}
use Rattle.cpu_access.specs.Stack.{no_writes}
use Rattle.cpu_access.proofs.Told.{unwritten}
use Rattle.r6501q_state.specs.declared.state.State.{State}
use Rattle.r6501q_state.specs.State.{fresh_cpu, fresh_due, fresh_peripherals, fresh_levels, fresh}
use Rattle.r6501q_state.specs.Copies.{flagged, with_counter_a, with_counter_b}
use Rattle.r6501q_state.specs.Control.{mode_a, mode_b}
use Rattle.r6501q_state.specs.Pins.{drive_a, drive_d, driven_word, levels_of, rose, fell, edges, with_edges, reset_of}
use Rattle.r6501q_state.specs.Pins.{sensed_at, sensed}
use Rattle.r6501q_cpu.specs.Processor.{processor_of}
use Rattle.r6501q_clock.specs.Clock.{with_inputs, inputs_set, count_a, count_b, sent_by, heard_by, peripherals_clock}
use Rattle.r6501q_clock.specs.Clock.{before_cpu}
use Rattle.r6501q_clock.specs.Clock.{finished}
use Rattle.r6501q_clock.specs.Clock.{clock_of}
use Rattle.memory_writes.specs.Commit.{put_write, committed}
use Rattle.r6501q_events.specs.Events.{has_input, same_levels, levels_change, underflows_a, underflows_b, ports_fresh}
use Rattle.r6501q_events.specs.Events.{control_fresh, transmitter_idle, receiver_idle, is_reset, reset_changes, cpu_starts}
use Rattle.r6501q_events.specs.Events.{puts_byte, event_of}
use Rattle.r6501q_events.specs.Gaps.{counting_a, counting_b, to_input, to_change, to_underflow_a, to_underflow_b, to_reset, to_cpu}
use Rattle.r6501q_events.specs.Gaps.{gap_of}
use Rattle.r6501q_events.proofs.Gaps.{gap_no_event}
use Rattle.leaps.specs.Leaps.{events_in, quiet_end, plains, trace, leap_count}
use Rattle.leaps.specs.World.{put_record, plain_of, done_in, event_in}
use Rattle.leaps.specs.Calls.{call_start}
use Rattle.r6501q_chip.specs.R6501q.{World, r6501q, plain, system}

-- fresh but for the count of both counters, IFR and the clock
abbrev held_with : ℕ → ℕ → ℕ → State
held_with count ifr clock = record {
  cpu = fresh_cpu;
  due = fresh_due;
  peripherals =
      with_counter_b (with_counter_a (flagged fresh_peripherals ifr) (record { count = count; latch = 0xFFFF }))
      (record { count = count; latchb = 0xFFFF; latchc = 0xFFFF; turnc = true });
  external = fresh_levels;
  last = fresh_levels;
  clock = clock;
}

-- after n clocks: the count of both counters, which underflow on each 65,536th clock, and IFR, which holds both flags
-- there and is cleared by RES low on the next
abbrev pub held_count : ℕ → ℕ
held_count n = 0xFFFF - n % 0x10000

abbrev pub held_flags : ℕ → ℕ
held_flags n = cond (ltb 0 n && eqb (n % 0x10000) 0) 0x30 0

abbrev pub held_state : ℕ → State
held_state n = held_with (held_count n) (held_flags n) n

-- an event clock: each 65,536th, with an underflow, and the one after it, where RES low clears IFR; clock 1 is none.
-- And how many there are up to clock n
abbrev pub held_event : ℕ → Bool
held_event n = ltb 1 n && (eqb (n % 0x10000) 0 || eqb (n % 0x10000) 1)

abbrev pub held_events : ℕ → ℕ
held_events n = n / 0x10000 + (n - 1) / 0x10000

-- the leaps of n clocks: 01, "event clocks done, plus 1 if the last clock done isn't an event clock; 0 if no clock is
-- done"
abbrev pub held_leaps : ℕ → ℕ
held_leaps n = cond (eqb n 0) 0 (held_events n + one_where (not (held_event n)))

-- clock n + 1 is counted among the event clocks just where it is one
event_counted : (n : ℕ) → one_where (held_event (n + 1)) + held_events n ≡ held_events (n + 1)
event_counted n = by_tests (ltb 1 (n + 1)) (eqb ((n + 1) % 0x10000) 0) (eqb ((n + 1) % 0x10000) 1) refl refl refl
  where
    by_tests : (a b c : Bool) → ltb 1 (n + 1) ≡ a → eqb ((n + 1) % 0x10000) 0 ≡ b → eqb ((n + 1) % 0x10000) 1 ≡ c
        → one_where (a && (b || c)) + held_events n ≡ held_events (n + 1)
    by_tests false b c e f g = omega (arith, ltb-false 1 (n + 1) e)
    by_tests true true c e f g = omega (arith, ltb-true 1 (n + 1) e, eqb-true ((n + 1) % 0x10000) 0 f)
    by_tests true false true e f g = omega (arith, ltb-true 1 (n + 1) e, eqb-true ((n + 1) % 0x10000) 1 g)
    by_tests true false false e f g =
        omega (arith, eqb-false ((n + 1) % 0x10000) 0 f, eqb-false ((n + 1) % 0x10000) 1 g)

pub held_fresh : held_state 0 ≡ fresh
unfolding fresh
held_fresh = refl

module _ (halt : Option ℕ) (memory times words : List ℕ) where
  abbrev pub held_in : State → World
  held_in s = call_start s memory [] [] times words

  -- ---- one clock

  at_underflow : (ifr clock : ℕ)
      → plain halt (held_in (held_with 0 ifr clock)) ≡ held_in (held_with 0xFFFF 0x30 (clock + 1))
  unfolding with_bit set_where flip_where input_count ticks_of in_force down_a counts_a clock_a reload_b down_b clock_b
      transmitter_asynchronous receiver_asynchronous receiver_shifting holds_a receiver_clock transmitter_clock mode_a mode_b
      drive_a drive_d driven_word levels_of rose fell edges with_edges reset_of sensed_at sensed with_inputs count_a count_b
      sent_by heard_by peripherals_clock before_cpu finished clock_of put_write committed processor_of plain_of put_record
  at_underflow ifr clock = rw (unwritten halt no_writes refl)

  counted_down : (count ifr clock : ℕ) → eqb count 0 ≡ false
      → plain halt (held_in (held_with count ifr clock)) ≡ held_in (held_with (count - 1) 0 (clock + 1))
  unfolding with_bit set_where flip_where input_count ticks_of in_force down_a counts_a clock_a reload_b down_b clock_b
      transmitter_asynchronous receiver_asynchronous receiver_shifting holds_a receiver_clock transmitter_clock mode_a mode_b
      drive_a drive_d driven_word levels_of rose fell edges with_edges reset_of sensed_at sensed with_inputs count_a count_b
      sent_by heard_by peripherals_clock before_cpu finished clock_of put_write committed processor_of plain_of put_record
  counted_down count ifr clock some = rw (some, unwritten halt no_writes refl)

  -- the next clock
  next_at : (n : ℕ) → n % 0x10000 ≡ 0xFFFF → plain halt (held_in (held_state n)) ≡ held_in (held_state (n + 1))
  next_at n last =
      let count : held_count n ≡ 0 = omega (arith, last) in
      let full : held_count (n + 1) ≡ 0xFFFF = omega (arith, last) in
      rw (
        count,
        full,
        lt-ltb 0 (n + 1) (omega arith),
        eq-eqb ((n + 1) % 0x10000) 0 (omega (arith, last)),
      ) (at_underflow (held_flags n) n)

  next_before : (n : ℕ) → (n % 0x10000 ≡ 0xFFFF → ⊥) → plain halt (held_in (held_state n)) ≡ held_in (held_state (n + 1))
  next_before n other =
      let some : eqb (held_count n) 0 ≡ false = ne_eqb (held_count n) 0 (λ z. other (omega (arith, z))) in
      let count : held_count (n + 1) ≡ held_count n - 1 = omega (arith, other) in
      let none : eqb ((n + 1) % 0x10000) 0 ≡ false = ne_eqb ((n + 1) % 0x10000) 0 (λ z. other (omega (arith, z))) in
      rw (count, lt-ltb 0 (n + 1) (omega arith), none) (counted_down (held_count n) (held_flags n) n some)

  held_next : (n : ℕ) → plain halt (held_in (held_state n)) ≡ held_in (held_state (n + 1))
  held_next n = by_test (eqb (n % 0x10000) 0xFFFF) refl
    where
      by_test : (t : Bool) → eqb (n % 0x10000) 0xFFFF ≡ t
          → plain halt (held_in (held_state n)) ≡ held_in (held_state (n + 1))
      by_test true e = next_at n (eqb-true (n % 0x10000) 0xFFFF e)
      by_test false e = next_before n (eqb-false (n % 0x10000) 0xFFFF e)

  -- ---- any number of clocks

  held_on : (n k : ℕ) → plains (system halt) n (held_in (held_state k)) ≡ held_in (held_state (k + n))
  unfolding plains
  held_on zero k = let e : k + 0 ≡ k = omega arith in rw e
  held_on (suc n) k = let e : k + suc n ≡ k + 1 + n = omega arith in rw (held_next k, e) (held_on n (k + 1))

  -- "a fresh chip with no inputs" after n plain clocks: memory, lists and every field as they were, but the clock, both
  -- counters and IFR; nothing read, recorded or stopped
  pub held_clocks : (n : ℕ) → plains (system halt) n (held_in fresh) ≡ held_in (held_state n)
  held_clocks n =
      ap (λ (s : State). plains (system halt) n (held_in s)) (sym held_fresh) ∙ held_on n 0
      ∙ ap (λ (m : ℕ). held_in (held_state m)) (omega arith)

  -- "stays without a CPU start"
  pub held_no_start : (n : ℕ) → cpu_starts (sensed (inputs_set (plains (system halt) n (held_in fresh)).state [])) ≡ false
  unfolding cpu_starts puts_byte sensed sensed_at levels_of reset_of with_edges with_inputs
  held_no_start n = rw (held_clocks n)

  -- ---- event clocks

  event_at : (ifr clock : ℕ) → event_in (r6501q halt) (held_in (held_with 0 ifr clock)) ≡ true
  unfolding event_in has_input same_levels levels_change underflows_a underflows_b ports_fresh control_fresh transmitter_idle
      receiver_idle is_reset reset_changes cpu_starts puts_byte event_of with_bit set_where flip_where input_count ticks_of in_force
      down_a counts_a clock_a reload_b down_b clock_b transmitter_asynchronous receiver_asynchronous receiver_shifting holds_a
      receiver_clock transmitter_clock mode_a mode_b drive_a drive_d driven_word levels_of rose fell edges with_edges reset_of
      sensed_at sensed with_inputs count_a count_b sent_by heard_by peripherals_clock before_cpu finished clock_of put_write
      committed processor_of plain_of put_record
  event_at ifr clock = refl

  event_after : (clock : ℕ) → event_in (r6501q halt) (held_in (held_with 0xFFFF 0x30 clock)) ≡ true
  unfolding event_in has_input same_levels levels_change underflows_a underflows_b ports_fresh control_fresh transmitter_idle
      receiver_idle is_reset reset_changes cpu_starts puts_byte event_of with_bit set_where flip_where input_count ticks_of in_force
      down_a counts_a clock_a reload_b down_b clock_b transmitter_asynchronous receiver_asynchronous receiver_shifting holds_a
      receiver_clock transmitter_clock mode_a mode_b drive_a drive_d driven_word levels_of rose fell edges with_edges reset_of
      sensed_at sensed with_inputs count_a count_b sent_by heard_by peripherals_clock before_cpu finished clock_of put_write
      committed processor_of plain_of put_record
  event_after clock = refl

  in_gap : (count clock : ℕ) → 0 < count → 0 < (gap_of 1 (held_with count 0 clock) []).0
  unfolding gap_of to_input to_change to_underflow_a to_underflow_b to_reset to_cpu counting_a counting_b counts_through_a
      counts_through_b event_in
      has_input same_levels levels_change underflows_a underflows_b ports_fresh control_fresh transmitter_idle receiver_idle
      is_reset reset_changes cpu_starts puts_byte event_of with_bit set_where flip_where input_count ticks_of in_force down_a
      counts_a
      clock_a reload_b down_b clock_b transmitter_asynchronous receiver_asynchronous receiver_shifting holds_a receiver_clock
      transmitter_clock mode_a mode_b drive_a drive_d driven_word levels_of rose fell edges with_edges reset_of sensed_at sensed
      with_inputs count_a count_b sent_by heard_by peripherals_clock before_cpu finished clock_of put_write committed processor_of
      plain_of put_record
  in_gap count clock some = omega (arith, some)

  no_event : (count clock : ℕ) → 0 < count → event_in (r6501q halt) (held_in (held_with count 0 clock)) ≡ false
  unfolding event_in input_count
  no_event count clock some = gap_no_event 1 (held_with count 0 clock) [] (in_gap count clock some)

  done_at : (count ifr clock : ℕ) → done_in (r6501q halt) (held_in (held_with count ifr clock)) ≡ true
  unfolding done_in with_bit set_where flip_where input_count ticks_of in_force down_a counts_a clock_a reload_b down_b clock_b
      transmitter_asynchronous receiver_asynchronous receiver_shifting holds_a receiver_clock transmitter_clock mode_a mode_b
      drive_a drive_d driven_word levels_of rose fell edges with_edges reset_of sensed_at sensed with_inputs count_a count_b
      sent_by heard_by peripherals_clock before_cpu finished clock_of put_write committed processor_of plain_of put_record
  done_at count ifr clock = by_test (eqb count 0) refl
    where
      by_test : (t : Bool) → eqb count 0 ≡ t → done_in (r6501q halt) (held_in (held_with count ifr clock)) ≡ true
      by_test true e = rw e
      by_test false e = rw e

  held_event_lem : (k : ℕ) → event_in (r6501q halt) (held_in (held_state k)) ≡ held_event (k + 1)
  held_event_lem k = by_tests (eqb (k % 0x10000) 0xFFFF) (ltb 0 k) (eqb (k % 0x10000) 0) refl refl refl
    where
      quiet : (k % 0x10000 ≡ 0xFFFF → ⊥) → held_flags k ≡ 0 → held_event (k + 1) ≡ false
          → event_in (r6501q halt) (held_in (held_state k)) ≡ held_event (k + 1)
      quiet other flags none = rw (flags, none) (no_event (held_count k) k (omega (arith, other)))

      by_tests : (last begun first : Bool) → eqb (k % 0x10000) 0xFFFF ≡ last → ltb 0 k ≡ begun
          → eqb (k % 0x10000) 0 ≡ first
          → event_in (r6501q halt) (held_in (held_state k)) ≡ held_event (k + 1)
      by_tests true begun first e f g =
          let last = eqb-true (k % 0x10000) 0xFFFF e in
          let count : held_count k ≡ 0 = omega (arith, last) in
          rw (count, lt-ltb 1 (k + 1) (omega (arith, last)), eq-eqb ((k + 1) % 0x10000) 0 (omega (arith, last)))
          (event_at (held_flags k) k)
      by_tests false true true e f g =
          let first = eqb-true (k % 0x10000) 0 g in
          let some = ltb-true 0 k f in
          let count : held_count k ≡ 0xFFFF = omega (arith, first) in
          rw (
            f,
            g,
            count,
            lt-ltb 1 (k + 1) (omega (arith, some)),
            ne_eqb ((k + 1) % 0x10000) 0 (λ z. omega (arith, z, first)),
            eq-eqb ((k + 1) % 0x10000) 1 (omega (arith, first)),
          ) (event_after k)
      by_tests false true false e f g =
          let last = eqb-false (k % 0x10000) 0xFFFF e in
          let first = eqb-false (k % 0x10000) 0 g in
          quiet last (rw (f, g))
          (rw (
            lt-ltb 1 (k + 1) (omega (arith, ltb-true 0 k f)),
            ne_eqb ((k + 1) % 0x10000) 0 (λ z. last (omega (arith, z))),
            ne_eqb ((k + 1) % 0x10000) 1 (λ z. first (omega (arith, z))),
          ))
      by_tests false false first e f g =
          quiet (eqb-false (k % 0x10000) 0xFFFF e) (rw f) (rw (le-ltb 1 (k + 1) (omega (arith, ltb-false 0 k f))))

  -- ---- leaps

  abbrev held : ℕ → World
  held k = held_in (held_state k)

  trace_next : (n k : ℕ)
      → trace (system halt) (suc n) (held k) ≡ held_event (k + 1) ∷ trace (system halt) n (held (k + 1))
  unfolding trace
  trace_next n k =
      rw (done_at (held_count k) (held_flags k) k, trace)
      (ap {B = List Bool} (λ (w : World). event_in (r6501q halt) (held k) ∷ trace (system halt) n w) (held_next k)
      ∙ ap {B = List Bool} (λ (e : Bool). e ∷ trace (system halt) n (held (k + 1))) (held_event_lem k))

  events_held : (n k : ℕ) → events_in (trace (system halt) n (held k)) + held_events k ≡ held_events (k + n)
  unfolding events_in trace
  events_held zero k = let e : k + 0 ≡ k = omega arith in rw e (omega arith)
  events_held (suc n) k =
      let e : k + suc n ≡ k + 1 + n = omega arith in
      rw (trace_next n k, e) (omega (arith, events_held n (k + 1), event_counted k))

  end_held : (n k : ℕ) → quiet_end (trace (system halt) (suc n) (held k)) ≡ one_where (not (held_event (k + suc n)))
  unfolding quiet_end trace
  end_held zero k = rw (trace_next 0 k)
  end_held (suc n) k =
      let e : k + suc (suc n) ≡ k + 1 + suc n = omega arith in
      rw (trace_next (suc n) k, trace_next n (k + 1), e) (ap quiet_end (sym (trace_next n (k + 1))) ∙ end_held n (k + 1))

  pub held_leaps_lem : (n : ℕ) → leap_count (system halt) n (held_in fresh) ≡ held_leaps n
  unfolding leap_count trace events_in quiet_end
  held_leaps_lem zero = refl
  held_leaps_lem (suc n) =
      let e : 0 + suc n ≡ suc n = omega arith in
      ap (λ (s : State). leap_count (system halt) (suc n) (held_in s)) (sym held_fresh)
      ∙ rw (end_held n 0, e, ne_eqb (suc n) 0 (λ z. omega (arith, z))) (omega (arith, events_held (suc n) 0))
