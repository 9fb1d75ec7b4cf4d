-- Document 01, "What is handed back", numbers 1 to 5: what a call checks before anything else, of any chip; and the
-- number of each refusal.
use Rattle.std.specs.Prelude.{Bool, ◌||◌, not, cond, List, [], ◌∷◌, ℕ, ◌+◌, ltb, eqb, length, Result, Ok, Err, ⊤}
use Rattle.pin_lists.specs.PinLists.{pins_right}
use Rattle.refusals.specs.declared.Limits.{Limits}
use Rattle.refusals.specs.declared.Refusal.{Refusal}
use Rattle.refusals.specs.declared.Refusal.TheVariants.{
  MemoryLength,
  MalformedState,
  UnpairedLists,
  PastLastClock,
  BrokenPinList,
  PageList,
}

-- 01, Machine state, "Clock (32 bits)": the last clock
abbrev pub last_clock : ℕ
last_clock = 4294967295

-- a number of the table, and whether what stands beside it is so
abbrev pub Row : Type 0
Row = ℕ × Bool

-- the number of the first that is so, 0 where none is
abbrev pub first_of : List Row → ℕ
first_of [] = 0
first_of ((number, so) ∷ later) = cond so number (first_of later)

-- the table's rows 1 to 5 in the order of the checks, for a state that is well-formed or not and is at this clock, a
-- memory of `bytes` bytes, and output lists of `times` and `words` entries
abbrev pub refusals : Limits → Bool → ℕ → ℕ → List ℕ → List ℕ → ℕ → ℕ → ℕ → List Row
refusals limits formed clock bytes clocks codes times words n =
    (1, not (eqb bytes limits.memory))
    ∷ (2, not formed)
    ∷ (3, not (eqb (length clocks) (length codes)) || not (eqb times words))
    ∷ (4, ltb last_clock (clock + n))
    ∷ (5, not (pins_right limits.pin clock clocks codes))
    ∷ []

-- "Lowest number first for 1 to 5": the number of a refusal, or 0
unfoldable pub refusal_of : Limits → Bool → ℕ → ℕ → List ℕ → List ℕ → ℕ → ℕ → ℕ → ℕ
refusal_of limits formed clock bytes clocks codes times words n =
    first_of (refusals limits formed clock bytes clocks codes times words n)

-- the numbers of the refusals as the code tells them apart: rows 1 to 5, and document 02's 13
abbrev pub number_of : Refusal → ℕ
number_of MemoryLength = 1
number_of MalformedState = 2
number_of UnpairedLists = 3
number_of PastLastClock = 4
number_of BrokenPinList = 5
number_of PageList = 13

-- the number of what the checks come to, 0 where none fails
abbrev pub number_in : Result ⊤ Refusal → ℕ
number_in (Ok _) = 0
number_in (Err refusal) = number_of refusal
