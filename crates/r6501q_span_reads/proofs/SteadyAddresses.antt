-- Which registers' values stay in a span: neither the data received, 17h, nor a counter, up to 1Eh.
use mathlib.Core.Path.{◌≡◌, refl}
use mathlib.Core.Bool.{Bool, true, false, ◌||◌}
use Prim.Native.Nat.{ℕ, ◌≤◌}
use native.Mathlib.Omega.{arith}
use lib.Dec.{ltb, eqb}
use borrow.Author.Tests.{ltb-true, ne_eqb}
use Rattle.r6501q_span_reads.specs.Steady.{steady_at}

pub not_at : (a b : ℕ) → steady_at a ≡ true → 0x17 ≤ b → b ≤ 0x1E → eqb a b ≡ false
unfolding steady_at
not_at a b e low high = by_test (ltb a 0x17) refl e
  where
    by_test : (t : Bool) → ltb a 0x17 ≡ t → (t || ltb 0x1E a) ≡ true → eqb a b ≡ false
    by_test true z f = ne_eqb a b (λ q. omega (arith, ltb-true a 0x17 z, q))
    by_test false z f = ne_eqb a b (λ q. omega (arith, ltb-true 0x1E a f, q))
