-- The steps of a decimal difference, with 16 or 256 added so that nothing is negative, are the signed ones.
use mathlib.Core.Path.{◌≡◌, ap}
use Prim.Native.Nat.{ℕ, suc, ◌+◌, ◌-◌, ◌%◌, ◌≤◌, ◌<◌}
use native.Mathlib.Omega.{arith}
use lib.IntN.{pos, sub_ℕ}
use Rattle.cpu_alu.specs.Arithmetic.{modulo, borrowed, lowered}
use Rattle.cpu_alu.proofs.Integers.{sub_neg, sub_pos}

-- the low difference x - y, where l is 16 more
pub borrowed_neg : (x y l : ℕ) → y ≤ 16 → l + y ≡ x + 16 → l < 16 → sub_ℕ ((l + 10) % 16) 16 ≡ borrowed (sub_ℕ x y)
borrowed_neg x y l h e b =
    let n : x < y = omega arith in
    let r : (l + 10) % 16 ≡ 15 - suc (y - suc x + 5) % 16 = omega arith in
    rw (sub_neg x y n) (ap (λ k. sub_ℕ k 16) r)

pub borrowed_pos : (x y l : ℕ) → l + y ≡ x + 16 → 16 ≤ l → sub_ℕ l 16 ≡ borrowed (sub_ℕ x y)
borrowed_pos x y l e b = let n : y ≤ x = omega arith in rw (sub_pos x y n, sub_pos l 16 b) (ap pos (omega arith))

-- the whole difference x - y, where t is 256 more
pub lowered_neg : (x y t : ℕ) → y ≤ 256 → t + y ≡ x + 256 → t < 256 → (t + 160) % 256 ≡ modulo (lowered (sub_ℕ x y)) 256
lowered_neg x y t h e b = let n : x < y = omega arith in rw (sub_neg x y n) (omega arith)

pub lowered_pos : (x y t : ℕ) → t + y ≡ x + 256 → 256 ≤ t → t % 256 ≡ modulo (lowered (sub_ℕ x y)) 256
lowered_pos x y t e b = let n : y ≤ x = omega arith in rw (sub_pos x y n) (omega arith)
