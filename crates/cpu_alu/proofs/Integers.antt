-- Differences of natural numbers as integers: their signs, sums and remainders.
use mathlib.Core.Path.{◌≡◌, ap}
use mathlib.Core.Bool.{Bool, true, false}
use Prim.Native.Nat.{ℕ, suc, ◌+◌, ◌-◌, ◌≤◌, ◌<◌}
use native.Mathlib.Omega.{arith}
use borrow.Author.Tests.{lt-ltb, le-ltb, ltb-true, ltb-false}
use lib.Dec.{ltb}
use lib.IntN.{pos, negsuc, sub_ℕ, ◌+ℤ◌}
use Rattle.bits.proofs.Cond.{cond_both}

-- by which of two numbers is the greater
pub by_less : {A : Type 0} (x y : ℕ) → (x < y → A) → (y ≤ x → A) → A
by_less {A} x y f g =
    cond_both {A = Bool} (λ b. A) (ltb x y) true false (λ h. f (ltb-true x y h)) (λ h. g (ltb-false x y h))

-- x - y
pub sub_neg : (x y : ℕ) → x < y → sub_ℕ x y ≡ negsuc (y - suc x)
sub_neg x y h = rw (lt-ltb x y h)

pub sub_pos : (x y : ℕ) → y ≤ x → sub_ℕ x y ≡ pos (x - y)
sub_pos x y h = rw (le-ltb x y h)

-- x - y is u - v where x + v is u + y
pub sub_same : (x y u v : ℕ) → x + v ≡ u + y → sub_ℕ x y ≡ sub_ℕ u v
sub_same x y u v h =
    by_less x y
    (λ p. let q : u < v = omega arith in rw (sub_neg x y p, sub_neg u v q) (ap negsuc (omega arith)))
    (λ p. let q : v ≤ u = omega arith in rw (sub_pos x y p, sub_pos u v q) (ap pos (omega arith)))

pub sub_add : (x y u v : ℕ) → sub_ℕ x y +ℤ sub_ℕ u v ≡ sub_ℕ (x + u) (y + v)
sub_add x y u v =
    by_less x y
    (λ p. by_less u v
    (λ q. let r : x + u < y + v = omega arith in
    rw (sub_neg x y p, sub_neg u v q, sub_neg (x + u) (y + v) r) (ap negsuc (omega arith)))
    (λ q. rw (sub_neg x y p, sub_pos u v q) (sub_same (u - v) (suc (y - suc x)) (x + u) (y + v) (omega arith))))
    (λ p. by_less u v
    (λ q. rw (sub_pos x y p, sub_neg u v q) (sub_same (x - y) (suc (v - suc u)) (x + u) (y + v) (omega arith)))
    (λ q. let r : y + v ≤ x + u = omega arith in
    rw (sub_pos x y p, sub_pos u v q, sub_pos (x + u) (y + v) r) (ap pos (omega arith))))
