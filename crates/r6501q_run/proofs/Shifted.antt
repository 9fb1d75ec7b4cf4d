-- The theorem of the shifted clock, of lists of calls on the R6501Q, and of runs past the last clock.
use Rattle.std.specs.Prelude.{Option}
use mathlib.Core.Path.{◌≡◌}
use mathlib.Core.Bool.{true}
use mathlib.Core.List.{List}
use Prim.Native.Nat.{ℕ}
use Rattle.leaps.specs.Leaps.{plains, leap_count}
use Rattle.leaps.specs.CallLists.{Call, run_of, calls}
use Rattle.leaps.specs.Calls.{Room, refusal_in, handed_back_of}
use Rattle.leaps.specs.Shifted.{ShiftedWorld, ShiftedHanded, ShiftedListed, clocks_fit}
use Rattle.leaps.proofs.ShiftedCalls as theory
use Rattle.r6501q_chip.specs.R6501q.{World, r6501q, system, machine}
use Rattle.r6501q_chip.specs.Shifted.{shifted_state}
use Rattle.r6501q_chip.proofs.Shifted.{shift_laws}
use Rattle.r6501q_leap.proofs.Laws.{laws}

module _ (halt : Option ℕ) (k : ℕ) (w v : World) (r : ShiftedWorld shifted_state k w v) (room : Room w) where
  -- Any list of single clocks and runs, refused ones included, of which none at the later clock is refused with 4:
  -- state, memory, records, stop and counts, and each call's result, are alike but for the clock.
  pub list_shifted : (cs : List Call) → clocks_fit (calls (machine halt) cs v).results ≡ true
      → ShiftedListed shifted_state k (calls (machine halt) cs w) (calls (machine halt) cs v)
  list_shifted = theory.list_shifted (r6501q halt) shifted_state (shift_laws halt) k (laws halt) w v r room

  -- A run at the earlier clock that is not refused is, but for the clock, n plain clocks at the later one with document
  -- 01's leaps, wherever that clock is: past the last one too, where a call is refused.
  pub run_past_last : (n : ℕ) → refusal_in (r6501q halt) n w ≡ 0
      → ShiftedHanded shifted_state k (run_of (machine halt) n w)
      (handed_back_of (leap_count (system halt) n v) (plains (system halt) n v))
  run_past_last = theory.run_past_shifted (r6501q halt) shifted_state (shift_laws halt) k (laws halt) w v r room
