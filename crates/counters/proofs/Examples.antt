-- P1 and P2 of document 01.
use mathlib.Core.Path.{◌≡◌, refl, ap}
use mathlib.Core.Bool.{Bool, true, false}
use mathlib.Core.List.{List, [], ◌∷◌}
use Prim.Native.Nat.{ℕ, zero, suc}
use lib.ListN.{replicate}
use Rattle.counters.specs.declared.a.CounterA.{CounterA}
use Rattle.counters.specs.Counters.{clock_a, counts_a, down_a, load_counter_a}

abbrev pub counter_a : ℕ → ℕ → CounterA
counter_a n l = record { count = n; latch = l }

-- the underflows of n clocks in mode 00, first clock first
abbrev pub underflows : ℕ → CounterA → List Bool
underflows zero c = []
underflows (suc n) c = (clock_a c 0 false false).underflow ∷ underflows n (clock_a c 0 false false).counter

-- P1, "L = 0: underflow each clock", for any number of clocks and whatever the count before
pub p1 : (n m : ℕ) → underflows n (load_counter_a (counter_a m 0)) ≡ replicate n true
unfolding clock_a counts_a down_a load_counter_a
p1 zero m = refl
p1 (suc n) m = ap (λ l. true ∷ l) (p1 n m)

-- P2, "L = 5 loaded on clock t: underflow on t + 6", whatever the count before
pub p2 : (n : ℕ) → underflows 6 (load_counter_a (counter_a n 5)) ≡ false ∷ false ∷ false ∷ false ∷ false ∷ true ∷ []
unfolding clock_a counts_a down_a load_counter_a
p2 n = refl
