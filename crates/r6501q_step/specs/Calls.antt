-- What the code of a call hands back.
use Rattle.std.specs.Prelude.{None, List, ℕ, ltb}
use Rattle.bits.specs.Bits.{one_where}
use Rattle.stops.specs.Stops.{number_of}
use Rattle.leaps.specs.Lent.{Lent}
use Rattle.r6501q_state.specs.declared.state.State.{State}
use Rattle.r6501q_advance.specs.declared.Progress.{Progress}
use Rattle.r6501q_step.specs.declared.CallResult.{CallResult}
use Rattle.r6501q_chip.specs.R6501q.{Handed, Result}

-- the result that the code's struct is
abbrev pub result_from : CallResult → Result
result_from r = record { number = r.number; state = r.state; leaps = r.leaps; read = r.read; written = r.written }

-- the result, and the lent lists as they are left
abbrev pub handed : CallResult → List ℕ → List ℕ → List ℕ → Handed
handed r memory output_clocks output_words = record {
  result = result_from r;
  memory = memory;
  output_clocks = output_clocks;
  output_words = output_words;
}

-- the result of a call, and the lent lists at its exit
abbrev pub at_exit : CallResult → Lent → Lent → Lent → Handed
at_exit r memory output_clocks output_words =
    handed r memory.exit.now output_clocks.exit.now output_words.exit.now

-- a call begins: nothing is read, written or stopped
abbrev pub begin : State → Progress
begin s = record { state = s; read = 0; written = 0; stop = None }

-- "1 to 5 give back the state given, everything unchanged"; "with nothing read or counted"
abbrev pub refusal_result : ℕ → State → CallResult
refusal_result number s = record { number = number; state = s; leaps = 0; read = 0; written = 0 }

-- "6, 7 state and lists as reached", and so 12; "Number 0: all n clocks done."
abbrev pub progress_result : ℕ → Progress → CallResult
progress_result leaps p = record {
  number = number_of p.stop;
  state = p.state;
  leaps = leaps;
  read = p.read;
  written = p.written;
}

-- 01, Run and leaps, for one clock: "Leaps = event clocks done, plus 1 if the last clock done isn't an event clock; 0
-- if no clock is done", so 1 where the clock moved (`single_run` of r6501q_run/proofs/Fair.antt)
abbrev pub leaps_from : ℕ → ℕ → ℕ
leaps_from before now = one_where (ltb before now)
