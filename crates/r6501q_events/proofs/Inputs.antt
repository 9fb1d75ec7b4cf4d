-- The distance to the next input.
use mathlib.Core.Path.{◌≡◌, refl, ◌∙◌}
use mathlib.Core.List.{List, [], ◌∷◌}
use Prim.Native.Nat.{ℕ, ◌-◌, ◌≤◌}
use native.Mathlib.Omega.{arith}
use lib.ListN.{length, get_or}
use Rattle.r6501q_events.specs.Gaps.{to_input}

-- no input is left
pub no_input : (n clock : ℕ) (clocks : List ℕ) → length clocks ≡ 0 → to_input n clock clocks ≡ n
unfolding to_input
no_input n clock [] e = refl
no_input n clock (t ∷ ts) e = absurd (let z : ◌≡◌ {A = ℕ} 0 1 = cc in omega arith)

-- the first input
pub first_input : (n clock : ℕ) (clocks : List ℕ) → (length clocks ≡ 0 → ⊥)
    → to_input n clock clocks ≡ get_or clocks 0 0 - clock - 1
unfolding to_input
first_input n clock [] h = absurd (h refl)
first_input n clock (t ∷ ts) h = refl

-- a first input that is not above the clock
pub first_passed : (n clock : ℕ) (clocks : List ℕ) → (length clocks ≡ 0 → ⊥) → get_or clocks 0 0 ≤ clock
    → to_input n clock clocks ≡ 0
first_passed n clock clocks h l = first_input n clock clocks h ∙ omega arith
