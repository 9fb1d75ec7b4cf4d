-- Hex digits, and the numbers and bytes that they write (document 01, "Tape").
use Rattle.std.specs.Prelude.{Bool, ◌&&◌, ◌||◌, cond, List, [], ◌∷◌, ℕ, ◌+◌, ◌-◌, ◌*◌, leb}

-- `0` to `9`
abbrev pub is_decimal : ℕ → Bool
is_decimal c = leb 48 c && leb c 57

-- `A` to `F`
abbrev pub is_letter : ℕ → Bool
is_letter c = leb 65 c && leb c 70

-- "of 0 to 9, A to F": a lower-case letter is no digit
unfoldable pub is_digit : ℕ → Bool
is_digit c = is_decimal c || is_letter c

-- a digit's value; what is no digit counts 0, and stands in no record that is accepted
unfoldable pub value_of : ℕ → ℕ
value_of c = cond (is_decimal c) (c - 48) (cond (is_letter c) (c - 65 + 10) 0)

-- the number that is written by digits behind those of n
unfoldable pub number_from : ℕ → List ℕ → ℕ
number_from n [] = n
number_from n (c ∷ cs) = number_from (16 * n + value_of c) cs

-- the number that digits write, the highest first
abbrev pub number_of : List ℕ → ℕ
number_of digits = number_from 0 digits

-- the byte of two digits
unfoldable pub byte_of : ℕ → ℕ → ℕ
byte_of high low = 16 * value_of high + value_of low

-- the bytes that digits write, two for each
unfoldable pub bytes_of : List ℕ → List ℕ
bytes_of [] = []
bytes_of (c ∷ []) = []
bytes_of (high ∷ (low ∷ digits)) = byte_of high low ∷ bytes_of digits
