-- The clocks with a tick, and how ticks and clocks add up.
use mathlib.Core.Path.{◌≡◌, refl, sym, ◌∙◌}
use mathlib.Core.Bool.{Bool, true, false, ◌&&◌}
use Prim.Native.Nat.{ℕ, zero, suc, ◌+◌, ◌-◌, ◌%◌, ◌<◌}
use native.Mathlib.Nat.{mod-eq_of_lt, mod-eq-sub-mod, zero-mod, zero-add}
use native.Mathlib.Omega.{arith}
use lib.Dec.{leb, eqb}
use borrow.Author.Tests.{leb-true, leb-false, le-leb, lt-leb, eqb-true, eqb-false, ne_eqb}
use Rattle.counters.specs.declared.a.CounterA.{CounterA}
use Rattle.counters.specs.Counters.{down_a}
use Rattle.r6501q_state.specs.declared.state.Peripherals.{Peripherals}
use Rattle.r6501q_clock.specs.Clock.{peripherals_clock}
use Rattle.r6501q_events.specs.Gaps.{counting_a}
use Rattle.r6501q_unseen.specs.declared.Ticking.{Ticking}
use Rattle.r6501q_unseen.specs.Unseen.{peripherals_clocks, ticks_next, ticks_in, on_tick, ticking_of}
use Rattle.r6501q_unseen.proofs.CounterA.{stepped_a, stepped_counting, counting_closed}

abbrev ticking_a : CounterA → Ticking
ticking_a c = record { first = c.count + 1; period = c.latch + 1 }

-- a reload begins a period
reload_on : (g l : ℕ)
    → (leb (l + 1) (g + 1) && eqb ((g + 1 - (l + 1)) % (l + 1)) 0)
    ≡ (leb (0 + 1) (suc g + 1) && eqb ((suc g + 1 - (0 + 1)) % (l + 1)) 0)
reload_on g l = by_test (leb (l + 1) (g + 1)) refl
  where
    later : suc g + 1 - (0 + 1) ≡ g + 1
    later = omega arith

    by_test : (t : Bool) → leb (l + 1) (g + 1) ≡ t
        → (leb (l + 1) (g + 1) && eqb ((g + 1 - (l + 1)) % (l + 1)) 0)
        ≡ (leb (0 + 1) (suc g + 1) && eqb ((suc g + 1 - (0 + 1)) % (l + 1)) 0)
    by_test true e =
        let k = leb-true (l + 1) (g + 1) e in
        let m : (g + 1) % (l + 1) ≡ (g + 1 - (l + 1)) % (l + 1) = mod-eq-sub-mod k in
        rw (e, le-leb (0 + 1) (suc g + 1) (omega arith), later, m)
    by_test false e =
        let k = leb-false (l + 1) (g + 1) e in
        let m : (g + 1) % (l + 1) ≡ g + 1 = mod-eq_of_lt k in
        rw (e, le-leb (0 + 1) (suc g + 1) (omega arith), later, m, ne_eqb (g + 1) 0 (λ z. omega arith))

-- the counter one clock later has its ticks one clock earlier
first_on : (g c : ℕ) → (c ≡ 0 → ⊥) → leb (c - 1 + 1) (g + 1) ≡ leb (c + 1) (suc g + 1)
first_on g c z = by_test (leb (c + 1) (suc g + 1)) refl
  where
    by_test : (t : Bool) → leb (c + 1) (suc g + 1) ≡ t → leb (c - 1 + 1) (g + 1) ≡ leb (c + 1) (suc g + 1)
    by_test true e = let k = leb-true (c + 1) (suc g + 1) e in rw e (le-leb (c - 1 + 1) (g + 1) (omega arith))
    by_test false e = let k = leb-false (c + 1) (suc g + 1) e in rw e (lt-leb (c - 1 + 1) (g + 1) (omega arith))

since_on : (g c : ℕ) → (c ≡ 0 → ⊥) → g + 1 - (c - 1 + 1) ≡ suc g + 1 - (c + 1)
since_on g c z = omega arith

on_next : (g : ℕ) (c : CounterA) → on_tick (ticking_a (down_a c).counter) (g + 1) ≡ on_tick (ticking_a c) (suc g + 1)
unfolding on_tick down_a
on_next g c = by_test (eqb c.count 0) refl
  where
    by_test : (t : Bool) → eqb c.count 0 ≡ t
        → on_tick (ticking_a (down_a c).counter) (g + 1) ≡ on_tick (ticking_a c) (suc g + 1)
    by_test true e = let z = eqb-true c.count 0 e in rw (e, z) (reload_on g c.latch)
    by_test false e =
        let z = eqb-false c.count 0 e in
        rw (e, first_on g c.count z, since_on g c.count z)

on_first : (c : CounterA) → eqb c.count 0 ≡ on_tick (ticking_a c) (0 + 1)
unfolding on_tick
on_first c = by_test (eqb c.count 0) refl
  where
    by_test : (t : Bool) → eqb c.count 0 ≡ t → eqb c.count 0 ≡ on_tick (ticking_a c) (0 + 1)
    by_test true e = let z = eqb-true c.count 0 e in rw (e, z, zero-mod (c.latch + 1))
    by_test false e =
        let z = eqb-false c.count 0 e in
        rw (e, lt-leb (c.count + 1) (0 + 1) (omega arith))

ticking_a_lem : (ports : ℕ) (p : Peripherals) → counting_a p.control ports ≡ true
    → ticking_of ports p ≡ ticking_a p.countera
unfolding ticking_of
ticking_a_lem ports p e = rw e

-- where counter A counts, `ticking_of` has every tick
pub on_tick_counting : (g ports : ℕ) (p : Peripherals) → counting_a p.control ports ≡ true
    → ticks_next ports (peripherals_clocks g ports p) ≡ on_tick (ticking_of ports p) (g + 1)
unfolding peripherals_clocks ticks_next
on_tick_counting zero ports p e = rw (e, ticking_a_lem ports p e) (on_first p.countera)
on_tick_counting (suc g) ports p e =
    let counts : counting_a (peripherals_clock p ports ports).control ports ≡ true = stepped_counting p ports ∙ e in
    on_tick_counting g ports (peripherals_clock p ports ports) counts
    ∙ rw (ticking_a_lem ports (peripherals_clock p ports ports) counts, ticking_a_lem ports p e, stepped_a p ports, e)
    (on_next g p.countera)

-- and where it does not, none
pub on_tick_none : (g ports : ℕ) (p : Peripherals) → counting_a p.control ports ≡ false → g + 1 < 4294967295
    → ticks_next ports (peripherals_clocks g ports p) ≡ on_tick (ticking_of ports p) (g + 1)
unfolding ticks_next on_tick ticking_of
on_tick_none g ports p e h = rw (counting_closed g ports p, e, lt-leb 4294967295 (g + 1) h)

-- the clocks with a tick, of clocks passed together
pub on_tick_lem : (g ports : ℕ) (p : Peripherals) → g + 1 < 4294967295
    → ticks_next ports (peripherals_clocks g ports p) ≡ on_tick (ticking_of ports p) (g + 1)
on_tick_lem g ports p h = by_test (counting_a p.control ports) refl
  where
    by_test : (t : Bool) → counting_a p.control ports ≡ t
        → ticks_next ports (peripherals_clocks g ports p) ≡ on_tick (ticking_of ports p) (g + 1)
    by_test true e = on_tick_counting g ports p e
    by_test false e = on_tick_none g ports p e h

-- ---- sums

pub peripherals_add : (m n ports : ℕ) (p : Peripherals) → peripherals_clocks (m + n) ports p
    ≡ peripherals_clocks n ports (peripherals_clocks m ports p)
unfolding peripherals_clocks
peripherals_add zero n ports p = rw (zero-add n)
peripherals_add (suc m) n ports p =
    let e : suc m + n ≡ suc (m + n) = omega arith in rw e (peripherals_add m n ports (peripherals_clock p ports ports))

pub ticks_add : (m n ports : ℕ) (p : Peripherals)
    → ticks_in (m + n) ports p ≡ ticks_in m ports p + ticks_in n ports (peripherals_clocks m ports p)
unfolding peripherals_clocks ticks_in
ticks_add zero n ports p = rw (zero-add n) (sym (zero-add _))
ticks_add (suc m) n ports p =
    let e : suc m + n ≡ suc (m + n) = omega arith in
    let rest = ticks_add m n ports (peripherals_clock p ports ports) in
    rw e (omega arith)
