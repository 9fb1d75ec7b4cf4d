-- Demand 3 of the R6501Q, one theorem over the list of calls: the theory's, of this chip.
use Rattle.std.specs.Prelude.{Option}
use mathlib.Core.Path.{◌≡◌}
use mathlib.Core.Bool.{true}
use mathlib.Core.List.{List, [], ◌∷◌}
use Prim.Native.Nat.{ℕ, ◌+◌, ◌≤◌, ◌<◌}
use lib.ListN.{length, get_or}
use Rattle.refusals.specs.Refusals.{last_clock}
use Rattle.leaps.specs.Leaps.{trace, leading_quiet}
use Rattle.leaps.specs.World.{running_in}
use Rattle.leaps.specs.CallLists.{Call, run_for, calls, step_of, plain_run_of}
use Rattle.leaps.specs.Calls.{call_start, Room, Fit}
use Rattle.leaps.proofs.Calls as theory
use Rattle.r6501q_state.specs.declared.state.State.{State}
use Rattle.r6501q_events.specs.Gaps.{gap_of}
use Rattle.r6501q_chip.specs.R6501q.{World, r6501q, system, machine}
use Rattle.r6501q_run.specs.Fair.{Fair}
use Rattle.r6501q_leap.proofs.Laws.{laws}

-- DEMAND 3. "Leaping equals stepping, for every well-formed start and every list of calls (single clocks and runs of
-- any count, refused ones included)" (`calls`): "state, memory, outputs, stop and counts are those of n plain clocks"
-- (`plains`, n being `clocks_accepted`, the counts of the calls not refused), "and the leap count is document 01's"
-- (`results_by`: of each call, with its number). It holds of damaged starts too, whose calls are refused, and for every
-- halt address or none: "In demand 3 all calls of a list are given the same address, or none, and a plain clock with
-- such a write is done, then stops with 12." (02, U4)
pub fair : (halt : Option ℕ) (cs : List Call) (w : World) → Room w → Fair halt cs w
fair halt cs w room = theory.fair (r6501q halt) (laws halt) cs w room

-- the same from any state, memory and lists: a start has nothing written, so that it needs no premise
pub fair_start : (halt : Option ℕ) (cs : List Call) (s : State)
    (memory input_clocks input_codes output_clocks output_words : List ℕ)
    → Fair halt cs (call_start s memory input_clocks input_codes output_clocks output_words)
fair_start halt cs s memory input_clocks input_codes output_clocks output_words =
    theory.fair_start (r6501q halt) (laws halt) cs s memory input_clocks input_codes output_clocks output_words

-- the single-clock call is a run of 1
pub single_run : (halt : Option ℕ) (w : World) → step_of (machine halt) w ≡ plain_run_of (machine halt) 1 w
single_run halt w = theory.single_run (r6501q halt) (laws halt) w

-- "the gap (clocks before the next event clock, at most those left)", of the clocks that plain clocks do
pub gap_leading : (halt : Option ℕ) (n : ℕ) (w : World) → Fit (r6501q halt) w → running_in w ≡ true
    → (gap_of n w.state w.input_clocks).0 ≡ leading_quiet (trace (system halt) n w)
gap_leading halt n w f on = theory.gap_leading (r6501q halt) (laws halt) n w f on

-- a run of a + b that fits the clock, cut into a and then b over the rest of the lists, ends the same in all but the
-- leap count
pub cut : (halt : Option ℕ) (a b : ℕ) (w : World) → Fit (r6501q halt) w → w.stop ≡ 0
    → w.state.clock + (a + b) ≤ last_clock
    → (calls (machine halt) (run_for a ∷ run_for b ∷ []) w).world ≡ (calls (machine halt) (run_for (a + b) ∷ []) w).world
cut halt a b w f on h = theory.cut (r6501q halt) (laws halt) a b w f on h

-- P7, "cut after a clocks from clock 0, an input on clock a is the first half's": none of clock a or before is left to
-- the second
pub first_half : (halt : Option ℕ) (a : ℕ) (w : World) → Fit (r6501q halt) w → w.state.clock ≡ 0 → a ≤ last_clock
    → (calls (machine halt) (run_for a ∷ []) w).world.stop ≡ 0
    → (k : ℕ) → k < length (calls (machine halt) (run_for a ∷ []) w).world.input_clocks
    → a < get_or (calls (machine halt) (run_for a ∷ []) w).world.input_clocks k 0
first_half halt a w f start h on k within = theory.first_half (r6501q halt) (laws halt) a w f start h on k within
