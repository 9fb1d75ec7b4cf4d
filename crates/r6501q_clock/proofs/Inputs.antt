-- The inputs of a clock, one after the other.
use mathlib.Core.Path.{◌≡◌}
use mathlib.Core.List.{List}
use Prim.Native.Nat.{ℕ, ◌+◌, ◌<◌, ◌≤◌}
use native.Mathlib.Numerals.{add-one}
use lib.ListN.{length, drop, get_or, drop_of_length-le}
use lib.Seq.{drop-cons}
use Rattle.r6501q_state.specs.declared.state.Levels.{Levels}
use Rattle.r6501q_state.specs.Inputs.{with_input}
use Rattle.r6501q_clock.specs.Clock.{with_inputs}

pub inputs_more : (l : Levels) (codes : List ℕ) (i : ℕ) → i < length codes
    → with_inputs l (drop i codes) ≡ with_inputs (with_input l (get_or codes i 0)) (drop (i + 1) codes)
unfolding with_inputs
inputs_more l codes i h = rw (drop-cons codes i 0 h, add-one i)

pub inputs_over : (l : Levels) (codes : List ℕ) (i : ℕ) → length codes ≤ i → with_inputs l (drop i codes) ≡ l
unfolding with_inputs
inputs_over l codes i h = rw (drop_of_length-le codes h)
