-- Counter A over n clocks between which no port level changes: its count, and its underflows.
use mathlib.Core.Path.{◌≡◌, refl, sym, ◌∙◌}
use mathlib.Core.Bool.{Bool, true, false, ◌&&◌, cond}
use Prim.Native.Nat.{ℕ, zero, suc, ◌+◌, ◌-◌, ◌*◌, ◌/◌, ◌%◌, ◌≤◌, ◌<◌}
use native.Mathlib.Nat.{div-eq_of_lt, div-eq-sub-div, mod-eq_of_lt, mod-eq-sub-mod, zero-add, sub-zero}
use native.Mathlib.Nat.{div-lt_iff_lt-mul}
use native.Mathlib.Omega.{arith}
use lib.Dec.{leb, eqb}
use borrow.Author.Tests.{leb-true, leb-false, le-leb, lt-leb, eqb-true, eqb-false}
use Rattle.bits.specs.Bits.{one_where}
use Rattle.counters.specs.declared.a.CounterA.{CounterA}
use Rattle.counters.specs.Counters.{CountedA, clock_a, down_a, counts_through_a, at_a, counted_a}
use Rattle.r6501q_state.specs.declared.state.Peripherals.{Peripherals}
use Rattle.r6501q_clock.specs.Clock.{count_a, count_b, sent_by, heard_by, peripherals_clock}
use Rattle.r6501q_events.specs.Gaps.{counting_a}
use Rattle.r6501q_events.proofs.Quiet.{no_rise}
use Rattle.r6501q_unseen.specs.Ticks.{underflows_in, count_after, counter_after}
use Rattle.r6501q_unseen.specs.Unseen.{peripherals_clocks, ticks_next, ticks_in}

-- ---- a reload begins a period

reload_underflows : (n l : ℕ) → 1 + cond (leb n l) 0 ((n - l - 1) / (l + 1) + 1) ≡ n / (l + 1) + 1
reload_underflows n l = by_test (leb n l) refl
  where
    by_test : (t : Bool) → leb n l ≡ t → 1 + cond (leb n l) 0 ((n - l - 1) / (l + 1) + 1) ≡ n / (l + 1) + 1
    by_test true e =
        let k = leb-true n l e in
        let z : n / (l + 1) ≡ 0 = div-eq_of_lt (omega arith) in
        rw (e, z)
    by_test false e =
        let k = leb-false n l e in
        let z : n / (l + 1) ≡ (n - (l + 1)) / (l + 1) + 1 = div-eq-sub-div (omega arith) (omega arith) in
        let d : n - (l + 1) ≡ n - l - 1 = omega arith in
        rw (e, z, d) (omega arith)

reload_count : (n l : ℕ) → cond (leb n l) (l - n) (l - (n - l - 1) % (l + 1)) ≡ l - n % (l + 1)
reload_count n l = by_test (leb n l) refl
  where
    by_test : (t : Bool) → leb n l ≡ t → cond (leb n l) (l - n) (l - (n - l - 1) % (l + 1)) ≡ l - n % (l + 1)
    by_test true e =
        let k = leb-true n l e in
        let z : n % (l + 1) ≡ n = mod-eq_of_lt (omega arith) in
        rw (e, z)
    by_test false e =
        let k = leb-false n l e in
        let z : n % (l + 1) ≡ (n - (l + 1)) % (l + 1) = mod-eq-sub-mod (omega arith) in
        let d : n - (l + 1) ≡ n - l - 1 = omega arith in
        rw (e, z, d)

-- ---- one clock and n are n + 1

less_one : (n c : ℕ) → (c ≡ 0 → ⊥) → leb n (c - 1) ≡ leb (suc n) c
less_one n c z = by_test (leb (suc n) c) refl
  where
    by_test : (t : Bool) → leb (suc n) c ≡ t → leb n (c - 1) ≡ leb (suc n) c
    by_test true e = let k = leb-true (suc n) c e in rw e (le-leb n (c - 1) (omega arith))
    by_test false e = let k = leb-false (suc n) c e in rw e (lt-leb n (c - 1) (omega arith))

over_by : (n c : ℕ) → (c ≡ 0 → ⊥) → n - (c - 1) - 1 ≡ suc n - c - 1
over_by n c z = omega arith

one_and : (n c : ℕ) → c - 1 - n ≡ c - suc n
one_and n c = omega arith

pub next_underflows : (n : ℕ) (c : CounterA)
    → one_where (eqb c.count 0) + underflows_in n (down_a c).counter ≡ underflows_in (suc n) c
unfolding underflows_in down_a
next_underflows n c = by_test (eqb c.count 0) refl
  where
    by_test : (t : Bool) → eqb c.count 0 ≡ t
        → one_where (eqb c.count 0) + underflows_in n (down_a c).counter ≡ underflows_in (suc n) c
    by_test true e =
        let z : c.count ≡ 0 = eqb-true c.count 0 e in
        let l : leb (suc n) 0 ≡ false = lt-leb (suc n) 0 (omega arith) in
        let d : suc n - 0 - 1 ≡ n = omega arith in
        rw (e, z, l, d) (reload_underflows n c.latch)
    by_test false e =
        let z = eqb-false c.count 0 e in
        rw (e, less_one n c.count z, over_by n c.count z) (zero-add _)

pub next_count : (n : ℕ) (c : CounterA) → count_after n (down_a c).counter ≡ count_after (suc n) c
unfolding count_after down_a
next_count n c = by_test (eqb c.count 0) refl
  where
    by_test : (t : Bool) → eqb c.count 0 ≡ t → count_after n (down_a c).counter ≡ count_after (suc n) c
    by_test true e =
        let z : c.count ≡ 0 = eqb-true c.count 0 e in
        let l : leb (suc n) 0 ≡ false = lt-leb (suc n) 0 (omega arith) in
        let d : suc n - 0 - 1 ≡ n = omega arith in
        rw (e, z, l, d) (reload_count n c.latch)
    by_test false e =
        let z = eqb-false c.count 0 e in
        rw (e, less_one n c.count z, over_by n c.count z, one_and n c.count) refl

-- ---- what one clock of steps 2 and 3 leaves: the modes in force, and counter A after its own step

abbrev pub step_a : Bool → CounterA → CounterA
step_a counting c = cond counting (down_a c).counter c

pub stepped_a : (p : Peripherals) (x : ℕ) → (peripherals_clock p x x).countera
    ≡ step_a (counting_a p.control x) p.countera
unfolding peripherals_clock count_a count_b sent_by heard_by clock_a counting_a counts_through_a
stepped_a p x = rw (no_rise 4 x) (cond_counter (counting_a p.control x) p.countera (down_a p.countera))
  where
    cond_counter : (t : Bool) (c : CounterA) (d : CountedA)
        → (cond t d (record { counter = c; underflow = false })).counter ≡ cond t d.counter c
    cond_counter true c d = refl
    cond_counter false c d = refl

pub stepped_counting : (p : Peripherals) (x : ℕ)
    → counting_a (peripherals_clock p x x).control x ≡ counting_a p.control x
unfolding peripherals_clock count_a count_b sent_by heard_by counting_a
stepped_counting p x = refl

down_latch : (c : CounterA) → (down_a c).counter.latch ≡ c.latch
unfolding down_a
down_latch c = by_test (eqb c.count 0)
  where
    by_test : (t : Bool)
        → (cond t (counted_a (at_a c c.latch) true) (counted_a (at_a c (c.count - 1)) false)).counter.latch ≡ c.latch
    by_test true = refl
    by_test false = refl

pub counter_more : (n : ℕ) (counting : Bool) (c : CounterA)
    → counter_after n counting (step_a counting c) ≡ counter_after (suc n) counting c
counter_more n true c = rw (down_latch c, next_count n c)
counter_more n false c = refl

-- ---- no clock

none_in_none : (c : CounterA) (t : Bool) → cond t (underflows_in 0 c) 0 ≡ 0
unfolding underflows_in
none_in_none c true = rw (le-leb 0 c.count (omega arith))
none_in_none c false = refl

pub counter_same : (counting : Bool) (c : CounterA) → counter_after 0 counting c ≡ c
unfolding count_after
counter_same true c = rw (le-leb 0 c.count (omega arith), sub-zero c.count)
counter_same false c = refl

-- ---- n clocks

-- the underflows are the ticks
pub ticks_closed : (n ports : ℕ) (p : Peripherals)
    → ticks_in n ports p ≡ cond (counting_a p.control ports) (underflows_in n p.countera) 0
unfolding ticks_in ticks_next
ticks_closed zero ports p = sym (none_in_none p.countera (counting_a p.control ports))
ticks_closed (suc n) ports p =
    rw (ticks_closed n ports (peripherals_clock p ports ports), stepped_counting p ports, stepped_a p ports)
    (by_test (counting_a p.control ports))
  where
    by_test : (t : Bool)
        → one_where (t && eqb p.countera.count 0) + cond t (underflows_in n (step_a t p.countera)) 0
        ≡ cond t (underflows_in (suc n) p.countera) 0
    by_test true = next_underflows n p.countera
    by_test false = refl

-- fewer clocks have no more ticks
pub ticks_fewer : (k n ports : ℕ) (p : Peripherals) → k ≤ n → ticks_in k ports p ≤ ticks_in n ports p
unfolding ticks_in
ticks_fewer zero n ports p h = omega arith
ticks_fewer (suc k) zero ports p h = absurd (omega arith)
ticks_fewer (suc k) (suc n) ports p h =
    let less = ticks_fewer k n ports (peripherals_clock p ports ports) (omega arith) in omega arith

-- the counter and whether it counts
pub counter_closed : (n ports : ℕ) (p : Peripherals)
    → (peripherals_clocks n ports p).countera ≡ counter_after n (counting_a p.control ports) p.countera
unfolding peripherals_clocks
counter_closed zero ports p = sym (counter_same (counting_a p.control ports) p.countera)
counter_closed (suc n) ports p =
    counter_closed n ports (peripherals_clock p ports ports)
    ∙ rw (stepped_counting p ports, stepped_a p ports) (counter_more n (counting_a p.control ports) p.countera)

pub counting_closed : (n ports : ℕ) (p : Peripherals)
    → counting_a (peripherals_clocks n ports p).control ports ≡ counting_a p.control ports
unfolding peripherals_clocks
counting_closed zero ports p = refl
counting_closed (suc n) ports p = counting_closed n ports (peripherals_clock p ports ports) ∙ stepped_counting p ports

-- clocks that end before an underflow have only those before it
pub ticks_within : (n ticks : ℕ) (c : CounterA) → n ≤ c.count + ticks * (c.latch + 1) → underflows_in n c ≤ ticks
unfolding underflows_in
ticks_within n ticks c h = by_test (leb n c.count) refl
  where
    periods : (m l : ℕ) → m < ticks * (l + 1) → m / (l + 1) + 1 ≤ ticks
    periods m l k =
        let less : m / (l + 1) < ticks = (div-lt_iff_lt-mul {k = l + 1} {x = m} {y = ticks} (omega arith)).1 k in
        omega arith

    by_test : (t : Bool) → leb n c.count ≡ t → underflows_in n c ≤ ticks
    by_test true e = rw e (omega arith)
    by_test false e = let k = leb-false n c.count e in rw e (periods (n - c.count - 1) c.latch (omega arith))
