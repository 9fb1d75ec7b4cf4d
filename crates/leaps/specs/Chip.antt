-- What clocks, calls and leaps ask of a chip: document 01, "One clock" and "Run and leaps".
use Rattle.std.specs.Prelude.{Bool, List, ℕ}
use Rattle.refusals.specs.declared.Limits.{Limits}

-- a clock that is done: the state and the memory after it, its output record if the word differs, and the stop that it
-- ends in, or 0
pub record ClockEnd (S : Type 0) : Type 0 where
  pub state : S
  pub memory : List ℕ
  pub differs : Bool
  pub word : ℕ
  pub stop : ℕ

-- what the next clock comes to: the number of a stop, and then the clock isn't done; or its end
pub data ClockOutcome (S : Type 0) : Type 0 where
  stopped : ℕ → ClockOutcome S
  ended : ClockEnd S → ClockOutcome S

-- `S` is the machine's state.
pub record ChipRules (S : Type 0) : Type 0 where
  -- the bytes of a memory, and the last pin
  pub limits : Limits
  -- "Well-formed: every field is within its range"
  pub well_formed : S → Bool
  -- the clock's number
  pub clock : S → ℕ
  -- steps 1 to 5, given the codes of the clock's inputs, the memory, and whether an output entry is free
  pub outcome : S → List ℕ → List ℕ → Bool → ClockOutcome S
  -- whether the next clock is an event clock, given the codes of its inputs
  pub event : S → List ℕ → Bool
  -- "the gap (clocks before the next event clock, at most those left)", given the clocks left and the rest of the input
  -- clocks
  pub gap : ℕ → S → List ℕ → ℕ
  -- "the gap passed"
  pub pass : ℕ → S → S
