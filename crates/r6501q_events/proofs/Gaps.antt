-- The gap is right: no clock of it is an event clock, the clock behind it is one, and it is one clock shorter after
-- each clock.
use mathlib.Core.Path.{◌≡◌, refl, sym, ap, ◌∙◌}
use mathlib.Core.Bool.{Bool, true, false, ◌&&◌, ◌||◌, not, cond, false≢true}
use mathlib.Core.List.{List, [], ◌∷◌}
use Prim.Native.Nat.{ℕ, suc, ◌+◌, ◌-◌, ◌<◌, ◌≤◌, min}
use native.Mathlib.Omega.{arith}
use lib.Dec.{eqb}
use lib.ListN.{take}
use borrow.Author.Tests.{eqb-false, ne_eqb, not-false}
use Rattle.bits.specs.Bits.{one_where}
use Rattle.bits.proofs.Cond.{cond_both}
use Rattle.cpu_access.specs.Waiting.{byte_waits}
use Rattle.counters.specs.declared.time.Clocks.{Clocks}
use Rattle.counters.specs.Counters.{pass_a, pass_b}
use Rattle.r6501q_state.specs.declared.state.State.{State}
use Rattle.r6501q_state.specs.Pins.{levels_of}
use Rattle.r6501q_clock.specs.Clock.{before_cpu}
use Rattle.r6501q_cpu.specs.Processor.{processor_of, without_writes}
use Rattle.r6501q_state.specs.Inputs.{last_pin}
use Rattle.pin_lists.specs.PinLists.{pins_right, input_count}
use Rattle.pin_lists.proofs.PinLists.{right_above}
use Rattle.r6501q_events.specs.Events.{has_input, same_levels, levels_change, is_reset, reset_changes, event_of}
use Rattle.r6501q_events.specs.Gaps.{clocks_of, counting_a, counting_b, to_input, to_change, to_underflow_a, to_underflow_b}
use Rattle.r6501q_events.specs.Gaps.{to_reset, until_cpu, to_cpu, gap_of, wait_after, pass_of}
use Rattle.r6501q_events.proofs.Same.{same_levels_lem, levels_same}
use Rattle.r6501q_events.proofs.Quiet.{Quiet, no_both, both_no, clock_quiet, quiet_event, event_quiet}
use Rattle.r6501q_events.proofs.Passing.{pass_change, pass_reset}

-- "at most those left"
pub gap_le : (n : ℕ) (s : State) (clocks : List ℕ) → (gap_of n s clocks).0 ≤ n
unfolding gap_of
gap_le n s clocks = omega arith

-- the lesser of two distances that are known
pub nearer_of : {a b r : Clocks} {x y : ℕ} → a ≡ clocks_of x → b ≡ clocks_of y → r ≡ clocks_of (min a.0 b.0)
    → r ≡ clocks_of (min x y)
nearer_of p q e = e ∙ rw (p, q)

-- 02, U3, "a gap of 0 is then shown to be the least": where no clock comes before the CPU acts, whatever the other
-- distances are
pub none_before_cpu : (n : ℕ) (s : State) (clocks : List ℕ) → to_cpu n s ≡ 0 → gap_of n s clocks ≡ clocks_of 0
unfolding gap_of
none_before_cpu n s clocks e = ap clocks_of (omega arith)

-- so where the next clock is the CPU's start, or its byte is put: RES was high and no wait is left, or 1 and a byte
-- waits
pub cpu_next : (n : ℕ) (s : State) (clocks : List ℕ) → s.last.res ≡ true → until_cpu s.cpu ≡ 0
    → gap_of n s clocks ≡ clocks_of 0
unfolding to_cpu
cpu_next n s clocks high over = none_before_cpu n s clocks (rw (high, over))

pub start_next : (n : ℕ) (s : State) (clocks : List ℕ) → s.last.res ≡ true → s.cpu.wait ≡ 0
    → gap_of n s clocks ≡ clocks_of 0
unfolding until_cpu
start_next n s clocks high over = cpu_next n s clocks high (omega arith)

pub put_next : (n : ℕ) (s : State) (clocks : List ℕ) → s.last.res ≡ true → s.cpu.wait ≡ 1
    → byte_waits s.cpu.waiting ≡ true
    → gap_of n s clocks ≡ clocks_of 0
unfolding until_cpu
put_next n s clocks high last waits = cpu_next n s clocks high (rw (last, waits))

-- ---- a gap above 0

-- a distance above 0, of an event that the next clock brings, or that a count brings
pub no_event : (t : Bool) (n : ℕ) → 0 < cond t 0 n → t ≡ false
no_event true n h = absurd (omega arith)
no_event false n h = refl

count_above : (t : Bool) (k n : ℕ) → 0 < cond t k n → t ≡ true → 0 < k
count_above true k n h e = h
count_above false k n h e = absurd (false≢true e)

-- no clock of it is an event clock
gap_quiet : (n : ℕ) (s : State) (clocks : List ℕ) → 0 < (gap_of n s clocks).0 → Quiet s
unfolding gap_of to_change to_underflow_a to_underflow_b to_reset to_cpu levels_change reset_changes
gap_quiet n s clocks h = record {
  still = record {
    levels = same_levels_lem (levels_of s) s.last (not-false _ (no_event (levels_change s) n (omega arith)));
    above_a =
        count_above (counting_a s.peripherals.control s.last.ports) s.peripherals.countera.count n
        (omega arith);
    above_b = count_above (counting_b s.peripherals.control) s.peripherals.counterb.count n (omega arith);
    reset = both_no s.last.res (is_reset s) (no_event (reset_changes s) n (omega arith));
  };
  waits = count_above s.last.res (until_cpu s.cpu) n (omega arith);
}

pub no_input_next : (n clock : ℕ) (clocks : List ℕ) → 0 < to_input n clock clocks → input_count (clock + 1) clocks ≡ 0
unfolding to_input input_count
no_input_next n clock [] h = refl
no_input_next n clock (t ∷ ts) h = rw (ne_eqb t (clock + 1) (λ e. omega arith))

module _ (n : ℕ) (s : State) (clocks : List ℕ) (h : 0 < (gap_of n s clocks).0) where
  -- the next clock has no input
  pub gap_no_input : input_count (s.clock + 1) clocks ≡ 0
  unfolding gap_of
  gap_no_input = no_input_next n s.clock clocks (omega arith)

  -- the clock is done, writes nothing, and is a gap of one clock passed
  pub gap_clock : (memory : List ℕ) → processor_of (before_cpu s []) memory ≡ without_writes (pass_of s (clocks_of 1))
  gap_clock memory = clock_quiet s memory (gap_quiet n s clocks h)

  -- and it is no event clock
  pub gap_no_event : event_of s [] ≡ false
  gap_no_event = quiet_event s (gap_quiet n s clocks h)

-- ---- no gap

above_event : (t : Bool) (n : ℕ) → t ≡ false → 0 < n → 0 < cond t 0 n
above_event t n e h = rw e h

above_count : (t : Bool) (k n : ℕ) → (t ≡ true → 0 < k) → 0 < n → 0 < cond t k n
above_count t k n a h = cond_both (λ (d : ℕ). 0 < d) t k n a (λ _. h)

quiet_gap : (n : ℕ) (s : State) (clocks : List ℕ) → 0 < n → Quiet s → 0 < to_input n s.clock clocks
    → 0 < (gap_of n s clocks).0
unfolding gap_of to_change to_underflow_a to_underflow_b to_reset to_cpu levels_change reset_changes
quiet_gap n s clocks h q i =
    let change = above_event (not (same_levels (levels_of s) s.last)) n
    (ap not (levels_same (levels_of s) s.last q.still.levels)) h in
    let a = above_count (counting_a s.peripherals.control s.last.ports) s.peripherals.countera.count n
    q.still.above_a h in
    let b =
    above_count (counting_b s.peripherals.control) s.peripherals.counterb.count n q.still.above_b h in
    let reset =
    above_event (not s.last.res && not (is_reset s)) n (no_both s.last.res (is_reset s) q.still.reset) h in
    let cpu = above_count s.last.res (until_cpu s.cpu) n q.waits h in
    omega arith

-- the next input is later, or the next clock has it
input_later : (n clock : ℕ) (clocks codes : List ℕ) → pins_right last_pin clock clocks codes ≡ true
    → has_input (take (input_count (clock + 1) clocks) codes) ≡ false → 0 < n → 0 < to_input n clock clocks
unfolding pins_right to_input input_count has_input
input_later n clock [] codes right none h = h
input_later n clock (t ∷ ts) [] right none h = absurd (false≢true right)
input_later n clock (t ∷ ts) (code ∷ codes) right none h = by_clock (eqb t (clock + 1)) refl none
  where
    by_clock : (b : Bool) → eqb t (clock + 1) ≡ b
        → has_input (take (cond b (suc (input_count (clock + 1) ts)) 0) (code ∷ codes)) ≡ false
        → 0 < t - clock - 1
    by_clock true e z = absurd (false≢true (sym z))
    by_clock false e z =
        let other = eqb-false t (clock + 1) e in
        let above : clock < t = right_above last_pin clock (t ∷ ts) (code ∷ codes) right 0 (omega arith) in
        omega arith

-- a clock that is no event clock has no input
event_input : (s : State) (codes : List ℕ) → event_of s codes ≡ false → has_input codes ≡ false
unfolding event_of
event_input s codes e = first (has_input codes) _ e
  where
    first : (a b : Bool) → (a || b) ≡ false → a ≡ false
    first true b e = e
    first false b e = refl

no_codes : (codes : List ℕ) → has_input codes ≡ false → codes ≡ []
unfolding has_input
no_codes [] e = refl
no_codes (code ∷ codes) e = absurd (false≢true (sym e))

-- with a clock left and no gap, the next clock is an event clock: of inputs that are right for the state's clock
pub gap_event : (n : ℕ) (s : State) (clocks codes : List ℕ) → pins_right last_pin s.clock clocks codes ≡ true → 0 < n
    → (gap_of n s clocks).0 ≡ 0
    → event_of s (take (input_count (s.clock + 1) clocks) codes) ≡ true
gap_event n s clocks codes right h none = by_event (event_of s inputs) refl
  where
    inputs : List ℕ
    inputs = take (input_count (s.clock + 1) clocks) codes

    by_event : (b : Bool) → event_of s inputs ≡ b → b ≡ true
    by_event true e = refl
    by_event false e =
        let input = event_input s inputs e in
        let q = event_quiet s (ap (event_of s) (sym (no_codes inputs input)) ∙ e) in
        let above = quiet_gap n s clocks h q (input_later n s.clock clocks codes right input h) in
        absurd (omega arith)

-- ---- a part of the gap passed

less_event : (t : Bool) (n g : ℕ) → cond t 0 (n - g) ≡ cond t 0 n - g
less_event true n g = omega arith
less_event false n g = refl

less_count : (t : Bool) (k n g : ℕ) → cond t (cond t (k - g) k) (n - g) ≡ cond t k n - g
less_count true k n g = refl
less_count false k n g = refl

less_until : (t : Bool) (wait d n g : ℕ) → cond t (cond t (wait - g) wait - d) (n - g) ≡ cond t (wait - d) n - g
less_until true wait d n g = omega arith
less_until false wait d n g = refl

less_input : (n : ℕ) (s : State) (g : ℕ) (clocks : List ℕ)
    → to_input (n - g) (pass_of s (clocks_of g)).clock clocks ≡ to_input n s.clock clocks - g
unfolding to_input pass_of
less_input n s g [] = refl
less_input n s g (t ∷ ts) = omega arith

less_min : (a b g : ℕ) → min (a - g) (b - g) ≡ min a b - g
less_min a b g = omega arith

module _ (n : ℕ) (s : State) (g : ℕ) where
  less_change : to_change (n - g) (pass_of s (clocks_of g)) ≡ to_change n s - g
  unfolding to_change
  less_change = rw (pass_change s g) (less_event (levels_change s) n g)

  less_underflow_a : to_underflow_a (n - g) (pass_of s (clocks_of g)) ≡ to_underflow_a n s - g
  unfolding to_underflow_a pass_of pass_a
  less_underflow_a =
      less_count (counting_a s.peripherals.control s.last.ports) s.peripherals.countera.count n g

  less_underflow_b : to_underflow_b (n - g) (pass_of s (clocks_of g)) ≡ to_underflow_b n s - g
  unfolding to_underflow_b pass_of pass_b
  less_underflow_b = less_count (counting_b s.peripherals.control) s.peripherals.counterb.count n g

  less_reset : to_reset (n - g) (pass_of s (clocks_of g)) ≡ to_reset n s - g
  unfolding to_reset
  less_reset = rw (pass_reset s g) (less_event (reset_changes s) n g)

  less_cpu : to_cpu (n - g) (pass_of s (clocks_of g)) ≡ to_cpu n s - g
  unfolding to_cpu until_cpu pass_of wait_after
  less_cpu = less_until s.last.res s.cpu.wait (one_where (byte_waits s.cpu.waiting)) n g

  -- after g clocks of it, the gap is g clocks shorter
  pub gap_passed : (clocks : List ℕ) → (gap_of (n - g) (pass_of s (clocks_of g)) clocks).0 ≡ (gap_of n s clocks).0 - g
  unfolding gap_of
  gap_passed clocks =
      rw (less_input n s g clocks, less_change, less_underflow_a, less_underflow_b, less_reset, less_cpu)
      (simp less_min)
