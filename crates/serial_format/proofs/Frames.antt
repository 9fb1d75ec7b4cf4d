-- Laws of widths, parity and frames.
use mathlib.Core.Path.{◌≡◌, refl, ◌∙◌}
use mathlib.Core.Bool.{Bool, true, ◌&&◌, beq}
use mathlib.Core.List.{List, [], ◌∷◌}
use Prim.Native.Nat.{ℕ, ◌+◌, ◌-◌, ◌*◌, ◌/◌, ◌%◌, ◌^◌, ◌≤◌, ◌<◌}
use native.Mathlib.Nat.{mod-lt, mul-le-mul, mod-eq_of_lt}
use native.Mathlib.Omega.{arith}
use lib.Pow.{pow_pos, pow_mono}
use lib.Bits.{bit_xor}
use lib.Dec.{T, eqb, eqb→eq}
use lib.ListN.{length, length-append}
use Rattle.bits.specs.Bits.{bit}
use Rattle.bits.specs.Lists.{bits_of, number_of_bits, odd_ones}
use Rattle.bits.proofs.Cond.{both_left, both_right, equal, one_where_le, cond_both}
use Rattle.bits.proofs.Tables.{below, below2, length_tabulate}
use Rattle.bits.proofs.Numbers.{number_append}
use Rattle.serial_format.specs.Format.{width, has_parity, parity_bit, data_bits, parity_and_stops, frame_bits}

pub values_pos : (sccr : ℕ) → 0 < 2 ^ width sccr
values_pos sccr = pow_pos (width sccr)

pub values_le : (sccr : ℕ) → 2 ^ width sccr ≤ 256
values_le sccr = pow_mono {i = width sccr} {j = 8} (omega arith)

pub data_lt : (sccr x : ℕ) → x % 2 ^ width sccr < 256
data_lt sccr x = omega (arith, mod-lt x (values_pos sccr), values_le sccr)

-- for each width and byte: the data bits write the byte modulo 2 to the width, whose own eight bits have the same
-- parity
data_right : ℕ → ℕ → Bool
data_right k x =
    eqb (number_of_bits (bits_of (8 - k) x)) (x % 2 ^ (8 - k))
    && beq (odd_ones (bits_of 8 (x % 2 ^ (8 - k)))) (odd_ones (bits_of (8 - k) x))

data_right_lem : (k x : ℕ) → k < 4 → x < 256 → T (data_right k x)
unfolding data_right
data_right_lem = below2 data_right 4 256 tt

pub number_data : (sccr x : ℕ) → x < 256 → number_of_bits (data_bits sccr x) ≡ x % 2 ^ width sccr
unfolding data_right
number_data sccr x h =
    eqb→eq (number_of_bits (data_bits sccr x)) (x % 2 ^ width sccr)
    (both_left (eqb (number_of_bits (data_bits sccr x)) (x % 2 ^ width sccr)) _
    (data_right_lem (sccr / 4 % 4) x (omega arith) h))

-- eight data bits are the byte
pub number_byte : (x : ℕ) → x < 256 → number_of_bits (bits_of 8 x) ≡ x
number_byte x h = number_data 0 x h ∙ mod-eq_of_lt h

pub odd_data : (sccr x : ℕ) → x < 256 → odd_ones (bits_of 8 (x % 2 ^ width sccr)) ≡ odd_ones (data_bits sccr x)
unfolding data_right
odd_data sccr x h =
    equal (odd_ones (bits_of 8 (x % 2 ^ width sccr))) (odd_ones (data_bits sccr x))
    (both_right (eqb (number_of_bits (data_bits sccr x)) (x % 2 ^ width sccr)) _
    (data_right_lem (sccr / 4 % 4) x (omega arith) h))

-- so a frame's ending may be taken from the data as a number
pub ending_data : (sccr x : ℕ) → x < 256
    → parity_and_stops sccr (bits_of 8 (x % 2 ^ width sccr)) ≡ parity_and_stops sccr (data_bits sccr x)
unfolding parity_bit
ending_data sccr x h = rw (odd_data sccr x h)

-- parity by folding a byte on itself
abbrev pair_of : ℕ → ℕ
pair_of n = bit_xor (n / 4) (n % 4)

abbrev pub folded : ℕ → ℕ
folded x = bit_xor (pair_of (bit_xor (x / 16) (x % 16)) / 2) (pair_of (bit_xor (x / 16) (x % 16)) % 2)

fold_right : ℕ → Bool
fold_right x = beq (eqb (folded x) 1) (odd_ones (bits_of 8 x))

pub fold_right_lem : (x : ℕ) → x < 256 → eqb (folded x) 1 ≡ odd_ones (bits_of 8 x)
unfolding fold_right
fold_right_lem x h = equal (eqb (folded x) 1) (odd_ones (bits_of 8 x)) (below fold_right 256 tt x h)

-- every frame has three bits more than its data
pub frame_length : (sccr x : ℕ) → length (frame_bits sccr x) ≡ width sccr + 3
unfolding frame_bits
frame_length sccr x =
    let d : length (data_bits sccr x) ≡ width sccr = length_tabulate (λ k. bit k x) (width sccr) 0 in
    let e : length (parity_and_stops sccr (data_bits sccr x))
    ≡ 2 = cond_both (λ (l : List Bool). length l ≡ 2) (has_parity sccr) (parity_bit sccr (data_bits sccr x) ∷ true ∷ [])
    (true ∷ true ∷ []) (λ _. refl) (λ _. refl) in
    let a = length-append (data_bits sccr x) (parity_and_stops sccr (data_bits sccr x)) in
    omega (arith, a, d, e)

-- a frame as a number
pub frame_number : (sccr x : ℕ) → x < 256
    → number_of_bits (frame_bits sccr x)
    ≡ (x % 2 ^ width sccr + 2 ^ width sccr * number_of_bits (parity_and_stops sccr (bits_of 8 (x % 2 ^ width sccr)))) * 2
unfolding frame_bits
frame_number sccr x h =
    let a = number_append (data_bits sccr x) (parity_and_stops sccr (data_bits sccr x)) in
    let n = number_data sccr x h in
    let l : length (data_bits sccr x) ≡ width sccr = length_tabulate (λ k. bit k x) (width sccr) 0 in
    rw (ending_data sccr x h, a, n, l) (omega arith)

pub ending_le : (sccr : ℕ) (bits : List Bool) → number_of_bits (parity_and_stops sccr bits) ≤ 3
ending_le sccr bits =
    cond_both (λ (l : List Bool). number_of_bits l ≤ 3) (has_parity sccr) (parity_bit sccr bits ∷ true ∷ [])
    (true ∷ true ∷ [])
    (λ _. let d = one_where_le (parity_bit sccr bits) in omega arith) (λ _. omega arith)

-- the parts of a frame of eleven bits
pub frame_le : (b e p : ℕ) → 0 < p → p ≤ 256 → e ≤ 3 → (b % p + p * e) * 2 ≤ 2046
frame_le b e p h k l = omega (arith, mod-lt b h, mul-le-mul k l)
