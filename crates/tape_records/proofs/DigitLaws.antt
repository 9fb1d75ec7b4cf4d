-- Laws of digits: their bounds, and one step of each walk along them.
use mathlib.Core.Path.{◌≡◌, refl, ap}
use mathlib.Core.Bool.{Bool, true, false, ◌&&◌}
use mathlib.Core.List.{List, [], ◌∷◌, ◌++◌}
use Prim.Native.Nat.{ℕ, suc, ◌+◌, ◌-◌, ◌*◌, ◌/◌, ◌≤◌, ◌<◌}
use native.Mathlib.Omega.{arith}
use native.Mathlib.Numerals.{add-one}
use borrow.Author.Tests.{leb-true, le-leb, lt-leb}
use lib.Dec.{leb}
use lib.ListN.{length, drop, get_or, drop_of_length-le, length-drop}
use lib.Seq.{drop-cons}
use Rattle.std.specs.List.{list_all}
use Rattle.bits.specs.Lists.{all_of}
use Rattle.bits.proofs.Cond.{cond_both}
use Rattle.page_sums.specs.PageSums.{total_of}
use Rattle.tape_records.specs.Digits.{is_decimal, is_letter, is_digit, value_of, number_from, number_of, byte_of, bytes_of}

pub and_true : (a b : Bool) → a && b ≡ true → (a ≡ true) × (b ≡ true)
and_true true b e = (refl, e)
and_true false b e = absurd (let z : ◌≡◌ {A = Bool} false true = e in let n : ◌≡◌ {A = ℕ} 0 1 = cc in omega arith)

pub value_most : (c : ℕ) → value_of c ≤ 15
unfolding value_of
value_most c =
    cond_both Small (is_decimal c) _ _ (λ e. let u = leb-true c 57 (and_true (leb 48 c) (leb c 57) e).1 in omega arith)
    (λ _. cond_both Small (is_letter c) _ _
    (λ e. let u = leb-true c 70 (and_true (leb 65 c) (leb c 70) e).1 in omega arith) (λ _. omega arith))
  where
    Small : ℕ → Type 0
    Small v = v ≤ 15

-- a digit's value by where the character stands
module _ (c : ℕ) where
  pub value_low : c < 48 → value_of c ≡ 0
  unfolding value_of
  value_low h = rw (lt-leb 48 c h, lt-leb 65 c (omega arith))

  pub value_decimal : 48 ≤ c → c ≤ 57 → value_of c ≡ c - 48
  unfolding value_of
  value_decimal h k = rw (le-leb 48 c h, le-leb c 57 k)

  pub value_between : 57 < c → c < 65 → value_of c ≡ 0
  unfolding value_of
  value_between h k = rw (le-leb 48 c (omega arith), lt-leb c 57 h, lt-leb 65 c k)

  pub value_letter : 65 ≤ c → c ≤ 70 → value_of c ≡ c - 65 + 10
  unfolding value_of
  value_letter h k = rw (le-leb 48 c (omega arith), lt-leb c 57 (omega arith), le-leb 65 c h, le-leb c 70 k)

  pub value_high : 70 < c → value_of c ≡ 0
  unfolding value_of
  value_high h = rw (le-leb 48 c (omega arith), lt-leb c 57 (omega arith), le-leb 65 c (omega arith), lt-leb c 70 h)

pub byte_most : (h l : ℕ) → byte_of h l ≤ 255
unfolding byte_of
byte_most h l = omega (arith, value_most h, value_most l)

-- a number only grows by further digits
pub number_least : (n : ℕ) (digits : List ℕ) → n ≤ number_from n digits
unfolding number_from
number_least n [] = omega arith
number_least n (c ∷ cs) = omega (arith, number_least (16 * n + value_of c) cs)

-- two digits write a byte, four digits 16 bits
pub number_byte : (digits : List ℕ) → length digits ≤ 2 → number_of digits ≤ 255
unfolding number_from
number_byte [] h = omega arith
number_byte (a ∷ []) h = omega (arith, value_most a)
number_byte (a ∷ (b ∷ [])) h = omega (arith, value_most a, value_most b)
number_byte (a ∷ (b ∷ (c ∷ ds))) h = absurd (omega arith)

pub number_word : (digits : List ℕ) → length digits ≤ 4 → number_of digits ≤ 65535
unfolding number_from
number_word [] h = omega arith
number_word (a ∷ []) h = omega (arith, value_most a)
number_word (a ∷ (b ∷ [])) h = omega (arith, value_most a, value_most b)
number_word (a ∷ (b ∷ (c ∷ []))) h = omega (arith, value_most a, value_most b, value_most c)
number_word (a ∷ (b ∷ (c ∷ (d ∷ [])))) h = omega (arith, value_most a, value_most b, value_most c, value_most d)
number_word (a ∷ (b ∷ (c ∷ (d ∷ (e ∷ ds))))) h = absurd (omega arith)

-- each character is a digit, in std's words
pub digits_all : (text : List ℕ) → list_all is_digit text ≡ all_of is_digit text
digits_all [] = refl
digits_all (c ∷ text) = ap (λ b. is_digit c && b) (digits_all text)

module _ (text : List ℕ) (i : ℕ) where
  pub number_next : (n : ℕ) → i < length text
      → number_from n (drop i text) ≡ number_from (16 * n + value_of (get_or text i 0)) (drop (i + 1) text)
  unfolding number_from
  number_next n h = rw (drop-cons text i 0 h, add-one i)

  pub number_end : (n : ℕ) → length text ≤ i → number_from n (drop i text) ≡ n
  unfolding number_from
  number_end n h = rw (drop_of_length-le text h)

-- one digit more of up to four leaves 16 bits
pub number_more : (digits : List ℕ) (i n : ℕ) → length digits ≤ 4 → i < length digits
    → number_from n (drop i digits) ≡ number_of digits → 16 * n + value_of (get_or digits i 0) ≤ 65535
number_more digits i n few h so =
    let more = 16 * n + value_of (get_or digits i 0) in
    omega (arith, number_word digits few, number_least more (drop (i + 1) digits), number_next digits i n h, so)

-- the bytes from the k-th on
module _ (digits : List ℕ) (k : ℕ) where
  pub bytes_next : k < length digits / 2
      → bytes_of (drop (2 * k) digits)
      ≡ byte_of (get_or digits (2 * k) 0) (get_or digits (2 * k + 1) 0) ∷ bytes_of (drop (2 * (k + 1)) digits)
  unfolding bytes_of
  bytes_next h =
      let a : 2 * k < length digits = omega arith in
      let b : suc (2 * k) < length digits = omega arith in
      let e : 2 * (k + 1) ≡ suc (suc (2 * k)) = omega arith in
      let f : 2 * k + 1 ≡ suc (2 * k) = omega arith in
      rw (e, f, drop-cons digits (2 * k) 0 a, drop-cons digits (suc (2 * k)) 0 b)

  pub bytes_end : length digits / 2 ≤ k → bytes_of (drop (2 * k) digits) ≡ []
  unfolding bytes_of
  bytes_end h = short (drop (2 * k) digits) (omega (arith, length-drop (2 * k) digits))
    where
      short : (l : List ℕ) → length l ≤ 1 → bytes_of l ≡ []
      short [] h = refl
      short (a ∷ []) h = refl
      short (a ∷ (b ∷ l)) h = absurd (omega arith)

-- the bytes of digits that begin with a pair
pub total_pair : (pair rest : List ℕ) {digits : List ℕ} → digits ≡ pair ++ rest → length pair ≡ 2
    → total_of (bytes_of digits) ≡ byte_of (get_or pair 0 0) (get_or pair 1 0) + total_of (bytes_of rest)
unfolding total_of bytes_of
total_pair [] rest e n = absurd (omega arith)
total_pair (a ∷ []) rest e n = absurd (omega arith)
total_pair (a ∷ (b ∷ [])) rest e n = rw e
total_pair (a ∷ (b ∷ (c ∷ pair))) rest e n = absurd (omega arith)

-- fewer than two digits write no byte
pub total_short : (digits : List ℕ) → length digits < 2 → total_of (bytes_of digits) ≡ 0
unfolding total_of bytes_of
total_short [] h = refl
total_short (a ∷ []) h = refl
total_short (a ∷ (b ∷ digits)) h = absurd (omega arith)

pub total_most : (digits : List ℕ) → total_of (bytes_of digits) ≤ 255 * length digits
unfolding total_of bytes_of
total_most [] = omega arith
total_most (a ∷ []) = omega arith
total_most (a ∷ (b ∷ digits)) = omega (arith, byte_most a b, total_most digits)
