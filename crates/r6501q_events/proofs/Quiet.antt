-- Where the next clock of a state is no event clock, that clock is a gap of one clock passed.
use mathlib.Core.Path.{◌≡◌, refl, sym, ap, ◌∙◌}
use mathlib.Core.Bool.{Bool, true, false, ◌&&◌, ◌||◌, not, cond, false≢true}
use mathlib.Core.List.{List, [], ◌∷◌}
use Prim.Native.Nat.{ℕ, zero, suc, ◌+◌, ◌-◌, ◌<◌}
use native.Mathlib.Omega.{arith}
use lib.Dec.{ltb, eqb}
use lib.ListN.{get_or}
use borrow.Author.Tests.{eqb-true, eqb-false, ne_eqb, le-ltb, not-false}
use Rattle.bits.specs.Bits.{bit, one_where, set_where, flip_where}
use Rattle.cpu_access.specs.Waiting.{byte_waits}
use Rattle.bits.specs.Lists.{any_of}
use Rattle.counters.specs.declared.a.CounterA.{CounterA}
use Rattle.counters.specs.declared.b.CounterB.{CounterB}
use Rattle.counters.specs.Counters.{clock_a, counts_a, down_a, counts_through_a, clock_b, down_b, counts_through_b, pass_a, pass_b}
use Rattle.counters.specs.Counters.{ticks_of}
use Rattle.counters.proofs.Gaps.{clock_passes_a, clock_passes_b}
use Rattle.serial_transmitter.specs.Transmitter.{transmitter_clock}
use Rattle.serial_receiver.specs.Receiver.{receiver_clock}
use Rattle.r6501q_state.specs.declared.state.Peripherals.{Peripherals}
use Rattle.r6501q_state.specs.declared.state.State.{State}
use Rattle.r6501q_state.specs.Copies.{with_counter_a, with_counter_b}
use Rattle.r6501q_state.specs.Pins.{levels_of, rose, fell, edges, with_edges, reset_of, sensed_at, sensed}
use Rattle.r6501q_state.specs.Control.{mode_a, mode_b}
use Rattle.r6501q_clock.specs.Clock.{with_inputs, inputs_set, count_a, count_b, sent_by, heard_by, peripherals_clock}
use Rattle.r6501q_clock.specs.Clock.{before_cpu}
use Rattle.r6501q_cpu.specs.Processor.{processor_of, without_writes}
use Rattle.r6501q_cpu.proofs.Stores.{clock_waits, waited_less}
use Rattle.r6501q_events.specs.Events.{has_input, levels_change, underflows_a, underflows_b, is_reset, reset_changes}
use Rattle.r6501q_events.specs.Events.{cpu_starts, puts_byte, event_tests, event_of}
use Rattle.r6501q_events.specs.Gaps.{clocks_of, counting_a, counting_b, until_cpu, wait_after, pass_counters, pass_of}
use Rattle.r6501q_events.proofs.Same.{same_levels_lem, levels_same, reset_same}

-- ---- no edge between equal levels

pub no_rise : (pin x : ℕ) → rose pin x x ≡ false
unfolding rose
no_rise pin x = neither (bit pin x)
  where
    neither : (b : Bool) → (not b && b) ≡ false
    neither true = refl
    neither false = refl

no_fall : (pin x : ℕ) → fell pin x x ≡ false
unfolding fell
no_fall pin x = neither (bit pin x)
  where
    neither : (b : Bool) → (b && not b) ≡ false
    neither true = refl
    neither false = refl

no_edges : (ifr x : ℕ) → edges ifr x x ≡ ifr
unfolding edges set_where
no_edges ifr x = rw (no_fall 3 x, no_fall 2 x, no_rise 1 x, no_rise 0 x)

no_nmi : (due level : Bool) → (due || (level && not level)) ≡ due
no_nmi true level = refl
no_nmi false true = refl
no_nmi false false = refl

-- ---- underflows without a rise

-- counter A underflows where it counts and stands at 0000h
underflow_a : (c : CounterA) (mode : ℕ) (low : Bool)
    → (clock_a c mode false low).underflow ≡ (counts_through_a mode low && eqb c.count 0)
unfolding clock_a counts_through_a down_a
underflow_a c mode low = by_tests (counts_a mode false low) (eqb c.count 0) refl refl
  where
    by_tests : (t z : Bool) → counts_a mode false low ≡ t → eqb c.count 0 ≡ z
        → (clock_a c mode false low).underflow ≡ (counts_a mode false low && eqb c.count 0)
    by_tests true true e f = rw (e, f)
    by_tests true false e f = rw (e, f)
    by_tests false z e f = rw e

-- and so does counter B
underflow_b : (c : CounterB) (mode : ℕ) → (clock_b c mode false).underflow ≡ (counts_through_b mode && eqb c.count 0)
unfolding clock_b counts_through_b down_b
underflow_b c mode = by_tests (ltb mode 2) (eqb mode 2) (eqb c.count 0) refl refl refl
  where
    by_tests : (l t z : Bool) → ltb mode 2 ≡ l → eqb mode 2 ≡ t → eqb c.count 0 ≡ z
        → (clock_b c mode false).underflow ≡ (not (eqb mode 2) && eqb c.count 0)
    by_tests l true z e f g =
        let m : mode ≡ 2 = eqb-true mode 2 f in
        let k : ltb mode 2 ≡ false = le-ltb mode 2 (omega arith) in
        rw (k, f)
    by_tests true false true e f g = rw (e, f, g)
    by_tests true false false e f g = rw (e, f, g)
    by_tests false false true e f g = rw (e, f, g)
    by_tests false false false e f g = rw (e, f, g)

-- the same of a state whose levels are the last ones
still_a : (s : State)
    → underflows_a s.last.ports s
    ≡ (counting_a s.peripherals.control s.last.ports && eqb s.peripherals.countera.count 0)
unfolding underflows_a counting_a
still_a s =
    let c = s.peripherals.countera in
    let mode = mode_a s.peripherals.control.mcr s.peripherals.control.sccr in
    let low = not (bit 4 s.last.ports) in
    ap (λ (r : Bool). (clock_a c mode r low).underflow) (no_rise 4 s.last.ports) ∙ underflow_a c mode low

still_b : (s : State)
    → underflows_b s.last.ports s ≡ (counting_b s.peripherals.control && eqb s.peripherals.counterb.count 0)
unfolding underflows_b counting_b
still_b s =
    let c = s.peripherals.counterb in
    let mode = mode_b s.peripherals.control.mcr in
    ap (λ (r : Bool). (clock_b c mode r).underflow) (no_rise 5 s.last.ports) ∙ underflow_b c mode

-- a counter, or the wait, that counts down is above 0, or it does not count down
pub not_at_zero : (counting : Bool) (count : ℕ) → (counting ≡ true → 0 < count) → (counting && eqb count 0) ≡ false
not_at_zero true count h = ne_eqb count 0 (λ e. let k = h refl in omega arith)
not_at_zero false count h = refl

pub above_zero : (counting : Bool) (count : ℕ) → (counting && eqb count 0) ≡ false → counting ≡ true → 0 < count
above_zero true count e z = let k = eqb-false count 0 e in omega arith
above_zero false count e z = absurd (false≢true z)

-- RES is high, or RES low changes no field
pub no_both : (r t : Bool) → (r ≡ false → t ≡ true) → (not r && not t) ≡ false
no_both true t h = refl
no_both false t h = rw (h refl)

pub both_no : (r t : Bool) → (not r && not t) ≡ false → r ≡ false → t ≡ true
both_no true t e z = absurd (false≢true (sym z))
both_no false t e z = not-false t e

-- ---- what is known of a state whose next clock, without an input, is no event clock, or one by the CPU alone

pub record Still (s : State) : Type 0 where
  pub levels : levels_of s ≡ s.last
  pub above_a : counting_a s.peripherals.control s.last.ports ≡ true → 0 < s.peripherals.countera.count
  pub above_b : counting_b s.peripherals.control ≡ true → 0 < s.peripherals.counterb.count
  pub reset : s.last.res ≡ false → is_reset s ≡ true

-- ---- what is known of a state whose next clock, without an input, is no event clock

pub record Quiet (s : State) : Type 0 where
  pub still : Still s
  pub waits : s.last.res ≡ true → 0 < until_cpu s.cpu

-- ---- step 1

-- the state whose clock is counted and has no inputs
abbrev pub ahead : State → State
ahead s =
    record {
      cpu = s.cpu;
      due = s.due;
      peripherals = s.peripherals;
      external = s.external;
      last = s.last;
      clock = s.clock + 1;
    }

inputs_set_ahead : (s : State) → inputs_set s [] ≡ ahead s
unfolding with_inputs
inputs_set_ahead s = refl

-- levels and tests of RES low do not look at the clock
levels_ahead : (s : State) → levels_of (ahead s) ≡ levels_of s
unfolding levels_of
levels_ahead s = refl

reset_ahead : (s : State) → is_reset (ahead s) ≡ is_reset s
unfolding is_reset
reset_ahead s = refl

-- no edge is recorded where the levels are the last ones
not_with_edges : (s : State) → with_edges s s.last ≡ s
unfolding with_edges
not_with_edges s = rw (no_edges s.peripherals.control.ifr s.last.ports, no_nmi s.due.nmi s.last.nmi)

with_edges_ahead : (s : State) → levels_of s ≡ s.last → with_edges (ahead s) (levels_of (ahead s)) ≡ ahead s
with_edges_ahead s e = rw (levels_ahead, e) (not_with_edges (ahead s))

sensed_at_same : (s : State) → (s.last.res ≡ false → is_reset s ≡ true) → sensed_at s s.last ≡ s
unfolding sensed_at
sensed_at_same s h = rw (not_with_edges s) (by_res s.last.res h)
  where
    by_res : (r : Bool) → (r ≡ false → is_reset s ≡ true) → cond r s (reset_of s) ≡ s
    by_res true k = refl
    by_res false k = reset_same s (k refl)

-- step 1 counts the clock and changes nothing else
sensed_ahead : (s : State) → levels_of s ≡ s.last → (s.last.res ≡ false → is_reset s ≡ true)
    → sensed (ahead s) ≡ ahead s
unfolding sensed
sensed_ahead s e h = rw (levels_ahead, e) (sensed_at_same (ahead s) (λ k. reset_ahead s ∙ h k))

-- ---- steps 2 and 3

counted_a_quiet : (p : Peripherals) (x : ℕ) → (counting_a p.control x ≡ true → 0 < p.countera.count)
    → count_a p x x
    ≡ record {
      peripherals = with_counter_a p
          (pass_a p.countera (counting_a p.control x) (clocks_of 1));
      ticks = ticks_of false;
    }
unfolding count_a counting_a set_where flip_where
counted_a_quiet p x h =
    rw (no_rise 4 x, clock_passes_a p.countera (mode_a p.control.mcr p.control.sccr) (not (bit 4 x)) h)

pub counted_b_quiet : (p : Peripherals) (x : ℕ) → (counting_b p.control ≡ true → 0 < p.counterb.count)
    → count_b p x x ≡ with_counter_b p (pass_b p.counterb (counting_b p.control) (clocks_of 1))
unfolding count_b counting_b set_where flip_where
counted_b_quiet p x h = rw (no_rise 5 x, clock_passes_b p.counterb (mode_b p.control.mcr) h)

-- without a tick the transmitter stands still, in either mode, and without a tick and a rise of PA4 the receiver
sent_none : (p : Peripherals) → sent_by p (ticks_of false) ≡ p
unfolding sent_by transmitter_clock ticks_of
sent_none p = refl

heard_none : (p : Peripherals) (x : ℕ) → heard_by p (ticks_of false) x x ≡ p
unfolding heard_by receiver_clock ticks_of
heard_none p x = rw (no_rise 4 x)

pub peripherals_quiet : (p : Peripherals) (x : ℕ) → (counting_a p.control x ≡ true → 0 < p.countera.count)
    → (counting_b p.control ≡ true → 0 < p.counterb.count) → peripherals_clock p x x ≡ pass_counters p x (clocks_of 1)
unfolding peripherals_clock
peripherals_quiet p x a b =
    rw (
      counted_a_quiet p x a,
      counted_b_quiet (with_counter_a p (pass_a p.countera (counting_a p.control x) (clocks_of 1))) x b,
      sent_none,
      heard_none,
    )

-- ---- the whole clock

abbrev pub peripherals_to : State → Peripherals → State
peripherals_to s p =
    record { cpu = s.cpu; due = s.due; peripherals = p; external = s.external; last = s.last; clock = s.clock }

-- steps 1 to 3, where the levels are the last ones
pub before_cpu_peripherals : (s : State) → levels_of s ≡ s.last → (s.last.res ≡ false → is_reset s ≡ true)
    → before_cpu s [] ≡ peripherals_to (ahead s) (peripherals_clock s.peripherals s.last.ports s.last.ports)
unfolding before_cpu
before_cpu_peripherals s levels reset = rw (inputs_set_ahead s, sensed_ahead s levels reset)

pub before_cpu_still : (s : State) → Still s
    → before_cpu s [] ≡ peripherals_to (ahead s) (pass_counters s.peripherals s.last.ports (clocks_of 1))
before_cpu_still s q =
    before_cpu_peripherals s q.levels q.reset
    ∙ rw (peripherals_quiet s.peripherals s.last.ports q.above_a q.above_b)

before_cpu_quiet : (s : State) → Quiet s
    → before_cpu s [] ≡ peripherals_to (ahead s) (pass_counters s.peripherals s.last.ports (clocks_of 1))
before_cpu_quiet s q = before_cpu_still s q.still

-- the CPU neither starts nor puts a byte: it waits, and where a byte waits for more than a clock
pub not_put : (r b : Bool) (wait : ℕ) → (r ≡ true → 0 < wait - one_where b) → (r && b && eqb wait 1) ≡ false
not_put true true wait h = ne_eqb wait 1 (λ e. let k = h refl in omega arith)
not_put true false wait h = refl
not_put false b wait h = refl

pub not_over : (r : Bool) (d wait : ℕ) → (r ≡ true → 0 < wait - d) → r ≡ true → 0 < wait
not_over r d wait h e = let k = h e in omega arith

acts_later : (r b : Bool) (wait : ℕ) → (r && eqb wait 0) ≡ false → (r && b && eqb wait 1) ≡ false → r ≡ true
    → 0 < wait - one_where b
acts_later true true wait e f z = let some = eqb-false wait 0 e in let more = eqb-false wait 1 f in omega arith
acts_later true false wait e f z = let some = eqb-false wait 0 e in omega arith
acts_later false b wait e f z = absurd (false≢true z)

-- steps 1 to 4 of a clock without inputs
pub clock_quiet : (s : State) (memory : List ℕ) → Quiet s
    → processor_of (before_cpu s []) memory ≡ without_writes (pass_of s (clocks_of 1))
unfolding processor_of pass_of wait_after until_cpu
clock_quiet s memory q = rw (before_cpu_quiet s q) (by_res s.last.res refl)
  where
    ready : State
    ready = peripherals_to (ahead s) (pass_counters s.peripherals s.last.ports (clocks_of 1))

    by_res : (r : Bool) → s.last.res ≡ r
        → processor_of (peripherals_to (ahead s) (pass_counters s.peripherals s.last.ports (clocks_of 1))) memory
        ≡ without_writes (pass_of s (clocks_of 1))
    by_res true e =
        let some = not_over true _ s.cpu.wait (λ _. q.waits e) refl in
        let none = not_put true (byte_waits s.cpu.waiting) s.cpu.wait (λ _. q.waits e) in
        clock_waits ready memory e some ∙ waited_less ready none ∙ rw e refl
    by_res false e = rw e

-- ---- no event clock

quiet_underflow_a : (s : State) → Quiet s → underflows_a s.last.ports (ahead s) ≡ false
quiet_underflow_a s q = still_a (ahead s) ∙ not_at_zero _ s.peripherals.countera.count q.still.above_a

quiet_underflow_b : (s : State) → Quiet s → underflows_b s.last.ports (ahead s) ≡ false
quiet_underflow_b s q = still_b (ahead s) ∙ not_at_zero _ s.peripherals.counterb.count q.still.above_b

quiet_change : (s : State) → Quiet s → levels_change (ahead s) ≡ false
unfolding levels_change
quiet_change s q = rw (levels_ahead, levels_same (levels_of s) s.last q.still.levels)

quiet_reset : (s : State) → Quiet s → reset_changes (ahead s) ≡ false
unfolding reset_changes
quiet_reset s q = rw reset_ahead (no_both s.last.res (is_reset s) q.still.reset)

quiet_start : (s : State) → Quiet s → cpu_starts (ahead s) ≡ false
unfolding cpu_starts until_cpu
quiet_start s q = not_at_zero s.last.res s.cpu.wait (not_over s.last.res _ s.cpu.wait q.waits)

quiet_put : (s : State) → Quiet s → puts_byte (ahead s) ≡ false
unfolding puts_byte until_cpu
quiet_put s q = not_put s.last.res (byte_waits s.cpu.waiting) s.cpu.wait q.waits

-- none of the kinds of event
pub quiet_event : (s : State) → Quiet s → event_of s [] ≡ false
unfolding event_of has_input
quiet_event s q =
    rw (
      inputs_set_ahead s,
      sensed_ahead s q.still.levels q.still.reset,
      with_edges_ahead s q.still.levels,
      quiet_change s q,
      quiet_underflow_a s q,
      quiet_underflow_b s q,
      quiet_reset s q,
      quiet_start s q,
      quiet_put s q,
    )

-- ---- and back

-- where none of a list of tests holds, each of them does not
none_of : (tests : List Bool) → any_of (λ (test : Bool). test) tests ≡ false → (k : ℕ) → get_or tests k false ≡ false
none_of [] e k = refl
none_of (true ∷ tests) e k = absurd (false≢true (sym e))
none_of (false ∷ tests) e zero = refl
none_of (false ∷ tests) e (suc k) = none_of tests e k

pub event_quiet : (s : State) → event_of s [] ≡ false → Quiet s
unfolding event_of has_input levels_change reset_changes cpu_starts puts_byte until_cpu
event_quiet s e =
    let none : (k : ℕ) → get_or (false ∷ event_tests (ahead s)) k false ≡ false =
    none_of (false ∷ event_tests (ahead s)) (rw (inputs_set_ahead s) at e) in
    let levels : levels_of s ≡ s.last =
    sym (levels_ahead s) ∙ same_levels_lem (levels_of (ahead s)) s.last (not-false _ (none 1)) in
    let reset : s.last.res ≡ false → is_reset s ≡ true =
    λ z. sym (reset_ahead s) ∙ both_no s.last.res _ (ap reset_changes (sym (with_edges_ahead s levels)) ∙ none 4) z in
    let same : sensed (ahead s) ≡ ahead s = sensed_ahead s levels reset in
    record {
      still = record {
        levels = levels;
        above_a =
            above_zero _ s.peripherals.countera.count
            (sym (still_a (ahead s)) ∙ ap (underflows_a s.last.ports) (sym same) ∙ none 2);
        above_b =
            above_zero _ s.peripherals.counterb.count
            (sym (still_b (ahead s)) ∙ ap (underflows_b s.last.ports) (sym same) ∙ none 3);
        reset = reset;
      };
      waits =
          acts_later s.last.res (byte_waits s.cpu.waiting) s.cpu.wait (ap cpu_starts (sym same) ∙ none 5)
          (ap puts_byte (sym same) ∙ none 6);
    }
