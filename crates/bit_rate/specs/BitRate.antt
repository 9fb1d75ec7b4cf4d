-- Document 02, U2 and U9: the smallest latch value for a wanted bit rate.
use Rattle.std.specs.Prelude.{Bool, ◌||◌, cond, ℕ, zero, suc, ◌+◌, ◌-◌, ◌*◌, leb, ltb, eqb, Option, Some, None, Result, Ok, Err}
use Rattle.bit_rate.specs.declared.OutOfLimits.{OutOfLimits}

-- "|f - ..|": of the two differences one is 0
abbrev pub difference : ℕ → ℕ → ℕ
difference a b = (a - b) + (b - a)

-- "|f - 16 × b × (N + 1)| × 1,000 at most t × 16 × b × (N + 1)": the latch value N fits clock rate f, bit rate b and
-- tolerance t
unfoldable pub fits : ℕ → ℕ → ℕ → ℕ → Bool
fits f b t N = leb (difference f (16 * b * (N + 1)) * 1000) (t * 16 * b * (N + 1))

-- "a latch value N from 0 to 65,535"
abbrev pub highest_latch : ℕ
highest_latch = 65535

-- "clock rate f, bit rate b (each to 10,000,000) and tolerance t in thousandths (to 1,000)"
abbrev pub highest_rate : ℕ
highest_rate = 10000000

abbrev pub highest_tolerance : ℕ
highest_tolerance = 1000

-- "f or b is 0, or a figure is above its limit"
unfoldable pub out_of_limits : ℕ → ℕ → ℕ → Bool
out_of_limits f b t = eqb f 0 || eqb b 0 || ltb highest_rate f || ltb highest_rate b || ltb highest_tolerance t

-- 02, U9, "the smallest N that fits": the first of so many latch values from N on that fits, or none
unfoldable pub first_fit : ℕ → ℕ → ℕ → ℕ → ℕ → Option ℕ
first_fit f b t zero N = None
first_fit f b t (suc more) N = cond (fits f b t N) (Some N) (first_fit f b t more (suc N))

-- what is handed back: a latch value or none, or a refusal
abbrev pub Found : Type 0
Found = Result (Option ℕ) OutOfLimits

abbrev pub refused : Found
refused = Err (record {})

-- "N from 0 to 65,535", "or say none, which must mean that no N fits"; "11: .. before any search"
unfoldable pub latch_for : ℕ → ℕ → ℕ → Found
latch_for f b t = cond (out_of_limits f b t) refused (Ok (first_fit f b t (highest_latch + 1) 0))

-- the number that is handed back: 0 with a latch value, 0 with none, and 11
abbrev pub latch_number : Found → ℕ
latch_number (Ok found) = 0
latch_number (Err _) = 11
