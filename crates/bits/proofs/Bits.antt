-- Laws of single bits.
use mathlib.Core.Path.{◌≡◌, ap, ap₂, ◌∙◌, sym, subst}
use mathlib.Core.Bool.{Bool, true, false}
use Prim.Native.Nat.{ℕ, suc, ◌+◌, ◌-◌, ◌*◌, ◌/◌, ◌%◌, ◌^◌, ◌≤◌, ◌<◌, min}
use native.Mathlib.Nat.{add-zero, zero-min, div-eq_of_lt, add-mul-div_right, add-mul-mod_self_right, one-mul}
use native.Mathlib.Nat.{mod-eq_of_lt, add-mul, mul_comm, pow-suc, mod-lt, mul-le-mul_right, div-add-mod'}
use native.Mathlib.Nat.{div-lt_iff_lt-mul}
use native.Mathlib.Omega.{arith}
use lib.Bits.{bit_and, and_shr, and_mod, and_step}
use lib.Pow.{pow-lt, pow_pos, pow-add, shr-shr, shl-shr, split, field, mod-mod-pow}
use lib.Dec.{eqb}
use borrow.Author.Tests.{eq-eqb, ne_eqb}
use Rattle.bits.specs.Bits.{bit, one_where, with_bit}
use Rattle.bits.proofs.Cond.{one_where_le}

-- a number taken apart at bit k: what is above it, the bit, what is below it
parts : (k x : ℕ) → x ≡ x / 2 ^ k / 2 * 2 ^ k + x / 2 ^ k / 2 * 2 ^ k + x / 2 ^ k % 2 * 2 ^ k + x % 2 ^ k
parts k x =
    let q = x / 2 ^ k in
    let s : q ≡ q / 2 + q / 2 + q % 2 = omega arith in
    let d = div-add-mod' x (2 ^ k) in
    let m : q * 2 ^ k ≡ q / 2 * 2 ^ k + q / 2 * 2 ^ k + q % 2 * 2 ^ k =
    ap (λ n. n * 2 ^ k) s ∙ add-mul (q / 2 + q / 2) (q % 2) (2 ^ k)
    ∙ ap (λ n. n + q % 2 * 2 ^ k) (add-mul (q / 2) (q / 2) (2 ^ k)) in
    omega (arith, d, m)

-- the weight of a bit that is set is in the number
pub bit_within : (k x : ℕ) → x / 2 ^ k % 2 * 2 ^ k ≤ x
bit_within k x = omega (arith, parts k x)

-- a number of n bits with bit k cleared has room for it
pub bit_room : (n k x : ℕ) → k < n → x < 2 ^ n → x - x / 2 ^ k % 2 * 2 ^ k + 2 ^ k < 2 ^ n
bit_room n k x h l =
    let w = 2 ^ k in
    let m = 2 ^ (n - k - 1) in
    let e : n ≡ k + suc (n - k - 1) = omega arith in
    let p : 2 ^ n ≡ (m + m) * w =
    ap (λ j. 2 ^ j) e ∙ pow-add 2 k (suc (n - k - 1)) ∙ ap (λ j. w * j) (pow-suc 2 (n - k - 1) ∙ omega arith)
    ∙ mul_comm w (m + m) in
    let q : x / w < m + m = (div-lt_iff_lt-mul (pow_pos k)).1 (subst (λ j. x < j) p l) in
    let u : (x / w / 2 + 1) * w ≤ m * w = mul-le-mul_right w (omega arith) in
    let v : (x / w / 2 + 1) * w ≡ x / w / 2 * w + 1 * w = add-mul (x / w / 2) 1 w in
    let r : x % w < w = mod-lt x (pow_pos k) in
    let s : (m + m) * w ≡ m * w + m * w = add-mul m m w in
    omega (arith, parts k x, one-mul w)

-- a number of n bits has n bits with bit k as given
pub with_bit_lt : (n k x : ℕ) (on : Bool) → k < n → x < 2 ^ n → with_bit k on x < 2 ^ n
unfolding with_bit
with_bit_lt n k x true h l = bit_room n k x h l
with_bit_lt n k x false h l = let r = bit_room n k x h l in omega arith

-- x with bit k as given, taken apart: what is above bit k, the bit, what is below it
put_parts : (k x : ℕ) (on : Bool) → with_bit k on x ≡ x % 2 ^ k + (x / 2 ^ k / 2 + x / 2 ^ k / 2 + one_where on) * 2 ^ k
unfolding with_bit
put_parts k x true =
    let h = x / 2 ^ k / 2 in
    let m : (h + h + 1) * 2 ^ k ≡ h * 2 ^ k + h * 2 ^ k + 1 * 2 ^ k =
    add-mul (h + h) 1 (2 ^ k) ∙ ap (λ n. n + 1 * 2 ^ k) (add-mul h h (2 ^ k)) in
    omega (arith, parts k x, one-mul (2 ^ k))
put_parts k x false =
    let h = x / 2 ^ k / 2 in
    let m : (h + h + 0) * 2 ^ k ≡ h * 2 ^ k + h * 2 ^ k =
    ap (λ n. n * 2 ^ k) (add-zero (h + h)) ∙ add-mul h h (2 ^ k) in
    omega (arith, parts k x)

-- from bit k on, it is what is above the bit, and the bit
put_high : (k x : ℕ) (on : Bool) → with_bit k on x / 2 ^ k ≡ x / 2 ^ k / 2 + x / 2 ^ k / 2 + one_where on
put_high k x on =
    let r : x % 2 ^ k / 2 ^ k ≡ 0 = div-eq_of_lt (mod-lt x (pow_pos k)) in
    rw (put_parts k x on)
    (add-mul-div_right (x % 2 ^ k) (x / 2 ^ k / 2 + x / 2 ^ k / 2 + one_where on) (pow_pos k) ∙ omega (arith, r))

-- what is put at bit k stands there
pub bit_put : (k x : ℕ) (on : Bool) → bit k (with_bit k on x) ≡ on
bit_put k x true = let h = put_high k x true in eq-eqb (with_bit k true x / 2 ^ k % 2) 1 (omega arith)
bit_put k x false = let h = put_high k x false in ne_eqb (with_bit k false x / 2 ^ k % 2) 1 (λ e. omega arith)

-- every bit above is kept
bit_value_above : (k j x : ℕ) (on : Bool) → with_bit k on x / 2 ^ (k + 1 + j) % 2 ≡ x / 2 ^ (k + 1 + j) % 2
bit_value_above k j x on = ap (λ n. n % 2) (at (with_bit k on x) ∙ ap (λ n. n / 2 ^ j) same ∙ sym (at x))
  where
    at : (y : ℕ) → y / 2 ^ (k + 1 + j) ≡ y / 2 ^ k / 2 ^ 1 / 2 ^ j
    at y = sym (ap (λ n. n / 2 ^ j) (shr-shr y k 1) ∙ shr-shr y (k + 1) j)

    same : with_bit k on x / 2 ^ k / 2 ^ 1 ≡ x / 2 ^ k / 2 ^ 1
    same = let h = put_high k x on in omega (arith, one_where_le on)

-- every bit above is kept
pub bit_above : (k j x : ℕ) (on : Bool) → bit (k + 1 + j) (with_bit k on x) ≡ bit (k + 1 + j) x
bit_above k j x on = ap (λ n. eqb n 1) (bit_value_above k j x on)

-- what is below the bit is kept
put_low : (k x : ℕ) (on : Bool) → with_bit k on x % 2 ^ k ≡ x % 2 ^ k
put_low k x on =
    ap (λ n. n % 2 ^ k) (put_parts k x on) ∙ add-mul-mod_self_right (x % 2 ^ k) _ (2 ^ k)
    ∙ mod-eq_of_lt (mod-lt x (pow_pos k))

-- and so is any lower part of it
put_below : (m j x : ℕ) (on : Bool) → with_bit (m + j) on x % 2 ^ j ≡ x % 2 ^ j
put_below m j x on =
    sym (mod-mod-pow (with_bit (m + j) on x) m j) ∙ ap (λ n. n % 2 ^ j) (put_low (m + j) x on) ∙ mod-mod-pow x m j

-- every bit below is kept
bit_value_below : (m j x : ℕ) (on : Bool) → with_bit (m + (1 + j)) on x / 2 ^ j % 2 ≡ x / 2 ^ j % 2
bit_value_below m j x on =
    sym (field (with_bit (m + (1 + j)) on x) 1 j) ∙ ap (λ n. n / 2 ^ j) (put_below m (1 + j) x on) ∙ field x 1 j

-- every bit below is kept
pub bit_below : (m j x : ℕ) (on : Bool) → bit j (with_bit (m + (1 + j)) on x) ≡ bit j x
bit_below m j x on = ap (λ n. eqb n 1) (bit_value_below m j x on)

-- two bits may be put in either order
pub put_swap : (m j x : ℕ) (on off : Bool)
    → with_bit j on (with_bit (m + (1 + j)) off x) ≡ with_bit (m + (1 + j)) off (with_bit j on x)
unfolding with_bit
put_swap m j x on off =
    let k = m + (1 + j) in
    let e : k ≡ j + 1 + m = omega arith in
    let a : with_bit j on x / 2 ^ k % 2 ≡ x / 2 ^ k % 2 = rw e (bit_value_above j m x on) in
    let b : with_bit k off x / 2 ^ j % 2 ≡ x / 2 ^ j % 2 = bit_value_below m j x off in
    let c : x / 2 ^ k % 2 * 2 ^ k ≤ with_bit j on x = rw a at (bit_within k (with_bit j on x)) in
    let d : x / 2 ^ j % 2 * 2 ^ j ≤ with_bit k off x = rw b at (bit_within j (with_bit k off x)) in
    rw (a, b) (omega (arith, bit_within j x, bit_within k x))

-- a bit may be put before or after the bits below some lower place are zeroed
pub put_floor : (m j x : ℕ) (on : Bool) → with_bit (m + j) on (x / 2 ^ j * 2 ^ j) ≡ with_bit (m + j) on x / 2 ^ j * 2 ^ j
unfolding with_bit
put_floor m j x on =
    let k = m + j in
    let y = x / 2 ^ j * 2 ^ j in
    let e : k ≡ j + m = omega arith in
    let h : y / 2 ^ k ≡ x / 2 ^ k =
    rw e (sym (shr-shr y j m) ∙ ap (λ n. n / 2 ^ m) (shl-shr (x / 2 ^ j) j) ∙ shr-shr x j m) in
    let l : x / 2 ^ k % 2 * 2 ^ k ≤ y = rw h at (bit_within k y) in
    rw h (omega (arith, bit_within k x, split x j, split (with_bit k on x) j, put_below m j x on))

-- a bit may be cleared before or after a mask is laid on
pub clear_mask : (k x m : ℕ) → with_bit k false (bit_and x m) ≡ bit_and (with_bit k false x) m
clear_mask k x m =
    let w = 2 ^ k in
    let a = with_bit k false (bit_and x m) in
    let b = bit_and (with_bit k false x) m in
    let q = x / w / 2 in
    let even : (q + q + 0) / 2 ≡ q = omega arith in
    let none : (q + q + 0) % 2 ≡ 0 = omega arith in
    let left : bit_and x m / w / 2 ≡ bit_and q (m / w / 2) =
    ap (λ n. n / 2) (and_shr x m k) ∙ and_shr (x / w) (m / w) 1 in
    let right : b / w ≡ bit_and q (m / w / 2) * 2 + min 0 (m / w % 2) =
    and_shr (with_bit k false x) m k ∙ ap (λ n. bit_and n (m / w)) (put_high k x false) ∙ and_step (q + q + 0) (m / w)
    ∙ ap₂ (λ n d. bit_and n (m / w / 2) * 2 + min d (m / w % 2)) even none in
    let above : a / w ≡ b / w = omega (arith, put_high k (bit_and x m) false, zero-min (m / w % 2)) in
    let below : a % w ≡ b % w =
    put_low k (bit_and x m) false ∙ and_mod x m k ∙ ap (λ n. bit_and n (m % w)) (sym (put_low k x false))
    ∙ sym (and_mod (with_bit k false x) m k) in
    sym (split a k) ∙ ap₂ (λ n d. n * w + d) above below ∙ split b k

-- the weight of a bit, as a shift within n bits gives it
pub weight : (n k : ℕ) → k < n → 1 * 2 ^ k % 2 ^ n ≡ 2 ^ k
weight n k h = rw one-mul (mod-eq_of_lt (pow-lt {i = k} {j = n} h))

-- the lowest bit, without a division by 1
pub bit_zero : (x : ℕ) → bit 0 x ≡ eqb (x % 2) 1
bit_zero x = let h : x / 1 ≡ x = omega arith in rw h
