-- Clocks between which no port level changes, one after the other: where they are unseen, counter B has them passed,
-- and without a tick they are a gap passed.
use mathlib.Core.Path.{◌≡◌, refl, sym, ap, ◌∙◌}
use mathlib.Core.Bool.{Bool, true, false}
use Prim.Native.Nat.{ℕ, zero, suc, ◌+◌, ◌-◌, ◌≤◌, ◌<◌}
use native.Mathlib.Nat.{zero-add, add-zero}
use native.Mathlib.Numerals.{add-one}
use native.Mathlib.Omega.{arith}
use Rattle.bits.specs.Bits.{one_where}
use Rattle.bits.proofs.Cond.{one_where_le}
use Rattle.counters.specs.declared.a.CounterA.{CounterA}
use Rattle.counters.specs.declared.b.CounterB.{CounterB}
use Rattle.counters.specs.Counters.{pass_a, pass_b}
use Rattle.counters.proofs.Gaps.{pass_add_a, pass_add_b}
use Rattle.r6501q_state.specs.declared.state.Peripherals.{Peripherals}
use Rattle.r6501q_clock.specs.Clock.{count_a, sent_by, heard_by, peripherals_clock}
use Rattle.r6501q_events.specs.Gaps.{clocks_of, counting_a, counting_b, pass_counters}
use Rattle.r6501q_events.proofs.Quiet.{not_at_zero, counted_b_quiet, peripherals_quiet}
use Rattle.r6501q_events.proofs.Passing.{zero_a, zero_b}
use Rattle.r6501q_unseen.proofs.TickClocks.{peripherals_add, ticks_add}
use Rattle.r6501q_unseen.specs.Unseen.{peripherals_clocks, ticks_next, ticks_in, Unseen}

-- ---- one clock more

pub peripherals_one : (n ports : ℕ) (p : Peripherals) → peripherals_clocks (n + 1) ports p
    ≡ peripherals_clock (peripherals_clocks n ports p) ports ports
unfolding peripherals_clocks
peripherals_one n ports p = peripherals_add n 1 ports p

pub ticks_one : (n ports : ℕ) (p : Peripherals)
    → ticks_in (n + 1) ports p ≡ ticks_in n ports p + one_where (ticks_next ports (peripherals_clocks n ports p))
unfolding peripherals_clocks ticks_in
ticks_one n ports p = ticks_add n 1 ports p ∙ rw (add-zero (one_where (ticks_next ports (peripherals_clocks n ports p))))

-- ---- the count of a counter that counts, with clocks passed

pub passed_a : (c : CounterA) (counting : Bool) (n : ℕ) → counting ≡ true
    → (pass_a c counting (clocks_of n)).count ≡ c.count - n
unfolding pass_a
passed_a c counting n e = rw e

pub passed_b : (c : CounterB) (counting : Bool) (n : ℕ) → counting ≡ true
    → (pass_b c counting (clocks_of n)).count ≡ c.count - n
unfolding pass_b
passed_b c counting n e = rw e

-- ---- what is unseen

-- counter B has a gap of one clock passed, whatever counter A does
counter_b_next : (p : Peripherals) (ports : ℕ) → (counting_b p.control ≡ true → 0 < p.counterb.count)
    → (peripherals_clock p ports ports).counterb ≡ pass_b p.counterb (counting_b p.control) (clocks_of 1)
unfolding peripherals_clock count_a sent_by heard_by counting_b
counter_b_next p ports h =
    ap (λ (q : Peripherals). q.counterb) (counted_b_quiet (count_a p ports ports).peripherals ports h)

module _ (n ports : ℕ) (p : Peripherals) (u : Unseen n ports p) where
  -- counter B has the clocks passed
  pub unseen_counter_b : (k : ℕ) → k ≤ n
      → (peripherals_clocks k ports p).counterb ≡ pass_b p.counterb (counting_b p.control) (clocks_of k)
  unfolding peripherals_clocks
  unseen_counter_b zero h = sym (zero_b p.counterb (counting_b p.control))
  unseen_counter_b (suc k) h =
      let here = peripherals_clocks k ports p in
      let same = (u.same k (omega arith)).control in
      let so_far = unseen_counter_b k (omega arith) in
      let count : counting_b p.control ≡ true → 0 < here.counterb.count =
      λ e. omega (arith, u.counter_b e, ap (λ (c : CounterB). c.count) so_far, passed_b p.counterb _ k e) in
      ap (λ (q : Peripherals). q.counterb) (rw (add-one k) at (peripherals_one k ports p))
      ∙ counter_b_next here ports (λ e. count (ap counting_b (sym same) ∙ e))
      ∙ rw (so_far, same, pass_add_b p.counterb (counting_b p.control) k 1, add-one k)

  module _ (k : ℕ) (h : k ≤ n) where
    -- the modes stay, so a counter that counts goes on
    pub unseen_counting_a : counting_a (peripherals_clocks k ports p).control ports ≡ counting_a p.control ports
    unseen_counting_a = rw (u.same k h).control

    pub unseen_counting_b : counting_b (peripherals_clocks k ports p).control ≡ counting_b p.control
    unseen_counting_b = rw (u.same k h).control

    -- counter B does not underflow in the clocks ahead
    pub unseen_left_b : counting_b (peripherals_clocks k ports p).control ≡ true
        → n - k ≤ (peripherals_clocks k ports p).counterb.count
    unseen_left_b e =
        let counts = sym unseen_counting_b ∙ e in
        omega (
          arith,
          u.counter_b counts,
          ap (λ (c : CounterB). c.count) (unseen_counter_b k h),
          passed_b p.counterb (counting_b p.control) k counts,
        )

-- ---- ticks

pub at_ticks : (ports : ℕ) (p : Peripherals) → counting_a p.control ports ≡ true → p.countera.count ≡ 0
    → ticks_next ports p ≡ true
unfolding ticks_next
at_ticks ports p e z = rw (e, z)

pub no_tick : (ports : ℕ) (p : Peripherals) → (counting_a p.control ports ≡ true → 0 < p.countera.count)
    → ticks_next ports p ≡ false
unfolding ticks_next
no_tick ports p h = not_at_zero (counting_a p.control ports) p.countera.count h

-- ---- clocks without an underflow

pub peripherals_pass : (n ports : ℕ) (p : Peripherals) → (counting_a p.control ports ≡ true → n ≤ p.countera.count)
    → (counting_b p.control ≡ true → n ≤ p.counterb.count) → peripherals_clocks n ports p
    ≡ pass_counters p ports (clocks_of n)
unfolding peripherals_clocks
peripherals_pass zero ports p a b =
    rw (zero_a p.countera (counting_a p.control ports), zero_b p.counterb (counting_b p.control))
peripherals_pass (suc n) ports p a b =
    let one : 1 + n ≡ suc n = omega arith in
    rw (peripherals_quiet p ports (λ e. omega (arith, a e)) (λ e. omega (arith, b e)))
    (peripherals_pass n ports (pass_counters p ports (clocks_of 1))
    (λ e. omega (arith, a e, passed_a p.countera _ 1 e))
    (λ e. omega (arith, b e, passed_b p.counterb _ 1 e))
    ∙ rw (
      pass_add_a p.countera (counting_a p.control ports) 1 n,
      pass_add_b p.counterb (counting_b p.control) 1 n,
      one,
    ))

pub none_ticks : (n ports : ℕ) (p : Peripherals) → (counting_a p.control ports ≡ true → n ≤ p.countera.count)
    → (counting_b p.control ≡ true → n ≤ p.counterb.count) → ticks_in n ports p ≡ 0
unfolding ticks_in
none_ticks zero ports p a b = refl
none_ticks (suc n) ports p a b =
    let first = no_tick ports p (λ e. omega (arith, a e)) in
    rw (first, peripherals_quiet p ports (λ e. omega (arith, a e)) (λ e. omega (arith, b e)), zero-add)
    (none_ticks n ports (pass_counters p ports (clocks_of 1)) (λ e. omega (arith, a e, passed_a p.countera _ 1 e))
    (λ e. omega (arith, b e, passed_b p.counterb _ 1 e)))

-- counter A, which counts, has its count of clocks before it ticks
pub first_tick : (ports : ℕ) (p : Peripherals) → counting_a p.control ports ≡ true
    → (counting_b p.control ≡ true → p.countera.count ≤ p.counterb.count)
    → ticks_in (p.countera.count + 1) ports p ≡ 1
first_tick ports p a b =
    let n = p.countera.count in
    let passed = peripherals_pass n ports p (λ e. omega arith) b in
    let left : (pass_counters p ports (clocks_of n)).countera.count ≡ 0 = omega (arith, passed_a p.countera _ n a) in
    ticks_one n ports p
    ∙ rw (none_ticks n ports p (λ e. omega arith) b, passed, at_ticks ports (pass_counters p ports (clocks_of n)) a left)

-- a clock has one tick at most
pub ticks_most : (n ports : ℕ) (p : Peripherals) → ticks_in n ports p ≤ n
unfolding ticks_in
ticks_most zero ports p = omega arith
ticks_most (suc n) ports p =
    omega (arith, one_where_le (ticks_next ports p), ticks_most n ports (peripherals_clock p ports ports))
