-- Bits and bytes of numbers: the vocabulary of every specification.
use Rattle.std.specs.Prelude.{Bool, true, not, cond, ℕ, ◌+◌, ◌-◌, ◌*◌, ◌/◌, ◌%◌, ◌^◌, eqb}

-- bit k of x: `bit 7 sccr` is the papers' SCCR7
abbrev pub bit : ℕ → ℕ → Bool
bit k x = eqb (x / 2 ^ k % 2) 1

-- a yes as 1, a no as 0
abbrev pub one_where : Bool → ℕ
one_where b = cond b 1 0

-- x with bit k as given, the others kept
unfoldable pub with_bit : ℕ → Bool → ℕ → ℕ
with_bit k on x = x - x / 2 ^ k % 2 * 2 ^ k + cond on (2 ^ k) 0

-- x with bit k set where asked, else as it was
unfoldable pub set_where : ℕ → Bool → ℕ → ℕ
set_where k on x = cond on (with_bit k true x) x

-- x with bit k inverted where asked, else as it was
unfoldable pub flip_where : ℕ → Bool → ℕ → ℕ
flip_where k on x = cond on (with_bit k (not (bit k x)) x) x

-- the two bytes of a 16-bit number, and the number of two bytes
abbrev pub low_byte : ℕ → ℕ
low_byte x = x % 256

abbrev pub high_byte : ℕ → ℕ
high_byte x = x / 256 % 256

abbrev pub word16 : ℕ → ℕ → ℕ
word16 h l = h * 256 + l

-- sums that wrap within 8 and 16 bits
abbrev pub wrapping8 : ℕ → ℕ → ℕ
wrapping8 a b = (a + b) % 256

abbrev pub wrapping16 : ℕ → ℕ → ℕ
wrapping16 a b = (a + b) % 65536
