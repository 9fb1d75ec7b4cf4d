-- Numbers read digit by digit.
use Rattle.std.proofs.Common.{◌≡◌, ℕ, suc, ◌+◌, ◌-◌, ◌*◌, ◌/◌, ◌%◌, ◌^◌, ◌<◌, ◌≤◌, List, length, get_or, take, drop, sym, refl, ◌∙◌, pow-suc, add-one, arith, length-drop, get_or-drop, take-suc, le-ltb, lt-ltb}
use native.Mathlib.Nat.{pow-le-pow_right}
use lib.Seq.{take_all}
use Rattle.std.specs.List.{slice_range}
use Rattle.record_text.specs.Lines.{digit_of, digits_of}
use Rattle.test_instructions.specs.Line.{Read}

-- ---- a digit

pub decimal_digit : (c : ℕ) → 48 ≤ c → c ≤ 57 → c ≡ digit_of (c - 48)
unfolding digit_of
decimal_digit c h k = rw (lt-ltb (c - 48) 10 (omega arith)) (omega arith)

pub letter_digit : (c : ℕ) → 65 ≤ c → c ≡ digit_of (c - 65 + 10)
unfolding digit_of
letter_digit c h = rw (le-ltb (c - 65 + 10) 10 (omega arith)) (omega arith)

-- ---- the loop: the first i digits are read, and write n

pub record Reading (line : List ℕ) (from i n : ℕ) : Type 0 where
  pub text : take i (drop from line) ≡ digits_of 16 i n
  pub small : n < 16 ^ i

module _ (line : List ℕ) (from : ℕ) where
  pub reading_begins : Reading line from 0 0
  unfolding digits_of
  reading_begins = record { text = refl; small = omega arith }

  text_next : (i n v : ℕ) → from + i < length line → v < 16 → get_or line (from + i) 0 ≡ digit_of v
      → take i (drop from line) ≡ digits_of 16 i n
      → take (suc i) (drop from line) ≡ digits_of 16 (suc i) (16 * n + v)
  unfolding digits_of
  text_next i n v h small here before =
      let inside : i < length (drop from line) = omega (arith, length-drop from line) in
      let upper : (16 * n + v) / 16 ≡ n = omega arith in
      let lower : (16 * n + v) % 16 ≡ v = omega arith in
      rw (take-suc (drop from line) i 0 inside, get_or-drop from line i 0, here, before, upper, lower)

  pub reading_on : (i n v : ℕ) → from + i < length line → v < 16 → get_or line (from + i) 0 ≡ digit_of v
      → Reading line from i n
      → Reading line from (i + 1) (16 * n + v)
  reading_on i n v h small here r =
      let wide : 16 ^ suc i ≡ 16 ^ i * 16 = pow-suc 16 i in
      let below = r.small in
      rw (add-one i)
      (record { text = text_next i n v h small here r.text; small = omega arith })

-- eight digits fit 32 bits
pub reading_fits : (line : List ℕ) (from i n : ℕ) → i < 8 → Reading line from i n → n < 16 ^ 7
reading_fits line from i n h r =
    let most : 16 ^ i ≤ 16 ^ 7 = pow-le-pow_right {n = 16} (omega arith) {i = i} {j = 7} (omega arith) in
    let below = r.small in
    omega arith

-- the digits that are read are all of `digits`, which the line has from `from` on
pub reading_ends : (line later digits : List ℕ) (from count i n : ℕ) → later ≡ slice_range line from (length line)
    → digits ≡ slice_range later 0 count → length digits + 0 ≡ count → length digits ≤ i → i ≤ length digits
    → Reading digits 0 i n → Read line from count n (from + count)
reading_ends line later digits from count i n behind front long most least r =
    let e : i ≡ count = omega arith in
    let rest : later ≡ drop from line =
    behind ∙ take_all (length line - from) (drop from line) (omega (arith, length-drop from line)) in
    let none : count - 0 ≡ count = omega arith in
    let cut : digits ≡ take count later = rw none at front in
    let whole : take i digits ≡ digits = take_all i digits most in
    let same : take count (drop from line) ≡ digits_of 16 i n = rw (← rest, ← cut) (sym whole ∙ r.text) in
    record { text = rw e at same; small = rw e at r.small; past = refl }
