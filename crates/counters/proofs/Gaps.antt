-- Laws of single clocks and gaps: one clock without a rise and without an underflow is a gap of one, and gaps add up.
use mathlib.Core.Path.{◌≡◌, refl}
use mathlib.Core.Bool.{Bool, true, false, not}
use Prim.Native.Nat.{ℕ, ◌+◌, ◌-◌, ◌≤◌, ◌<◌}
use native.Mathlib.Omega.{arith}
use lib.Dec.{ltb, eqb}
use borrow.Author.Tests.{ne_eqb, eqb-true, le-ltb}
use Rattle.bits.proofs.Cond.{one_where_le}
use Rattle.counters.specs.declared.time.Clocks.{Clocks}
use Rattle.counters.specs.declared.a.CounterA.{CounterA}
use Rattle.counters.specs.declared.b.CounterB.{CounterB}
use Rattle.counters.specs.Counters.{clock_a, counts_a, down_a, counts_through_a, pass_a, counted_a, clock_b, down_b}
use Rattle.counters.specs.Counters.{reload_b, counts_through_b}
use Rattle.counters.specs.Counters.{pass_b, counted_b, at_b, ticks_of}

abbrev pub clocks : ℕ → Clocks
clocks n = record { 0 = n }

-- a clock without a rise, on which a counter that counts is above 0000h, is a gap of one clock
pub clock_passes_a : (c : CounterA) (mode : ℕ) (low : Bool) → (counts_through_a mode low ≡ true → 0 < c.count)
    → clock_a c mode false low ≡ counted_a (pass_a c (counts_through_a mode low) (clocks 1)) false
unfolding clock_a counts_through_a pass_a down_a
clock_passes_a c mode low = by_test (counts_a mode false low) refl
  where
    by_test : (t : Bool) → counts_a mode false low ≡ t → (counts_a mode false low ≡ true → 0 < c.count)
        → clock_a c mode false low ≡ counted_a (pass_a c (counts_through_a mode low) (clocks 1)) false
    by_test true e h =
        let p : 0 < c.count = h e in
        let z : c.count ≡ 0 → ⊥ = λ q. omega arith in
        rw (e, ne_eqb c.count 0 z)
    by_test false e h = rw e

pub clock_passes_b : (c : CounterB) (mode : ℕ) → (counts_through_b mode ≡ true → 0 < c.count)
    → clock_b c mode false ≡ counted_b (pass_b c (counts_through_b mode) (clocks 1)) false
unfolding clock_b counts_through_b pass_b down_b
clock_passes_b c mode = by_test (ltb mode 2) (eqb mode 2) refl refl
  where
    Passes : Type 0
    Passes = clock_b c mode false ≡ counted_b (pass_b c (counts_through_b mode) (clocks 1)) false

    down : (0 < c.count) → down_b c mode ≡ counted_b (pass_b c true (clocks 1)) false
    down p = let z : c.count ≡ 0 → ⊥ = λ q. omega arith in rw (ne_eqb c.count 0 z)

    by_test : (t u : Bool) → ltb mode 2 ≡ t → eqb mode 2 ≡ u → (not (eqb mode 2) ≡ true → 0 < c.count) → Passes
    by_test t true e f h =
        let m : mode ≡ 2 = eqb-true mode 2 f in
        let l : ltb mode 2 ≡ false = le-ltb mode 2 (omega arith) in
        rw (l, f)
    by_test true false e f h = rw (e, f) (down (h (rw f)))
    by_test false false e f h = rw (e, f) (down (h (rw f)))

-- gaps add up
pub pass_add_a : (c : CounterA) (counting : Bool) (m n : ℕ)
    → pass_a (pass_a c counting (clocks m)) counting (clocks n) ≡ pass_a c counting (clocks (m + n))
unfolding pass_a
pass_add_a c true m n = let e : c.count - m - n ≡ c.count - (m + n) = omega arith in rw e
pass_add_a c false m n = refl

pub pass_add_b : (c : CounterB) (counting : Bool) (m n : ℕ)
    → pass_b (pass_b c counting (clocks m)) counting (clocks n) ≡ pass_b c counting (clocks (m + n))
unfolding pass_b
pass_add_b c true m n = let e : c.count - m - n ≡ c.count - (m + n) = omega arith in rw e
pass_add_b c false m n = refl

-- 01, One clock, 3: a clock has one tick at most
pub ticks_le : (underflow : Bool) → (ticks_of underflow).0 ≤ 1
unfolding ticks_of
ticks_le underflow = one_where_le underflow

-- 01, Joints: "PA5 rise and underflow on one clock counted as both": a rise in mode 11 reloads from latch B and is no
-- underflow
pub rise_reloads : (c : CounterB) → clock_b c 3 true ≡ counted_b (at_b c c.latchb c.turnc) false
unfolding clock_b reload_b
rise_reloads c = refl
