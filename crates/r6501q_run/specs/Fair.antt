-- Demand 3 of the R6501Q.
use Rattle.std.specs.Prelude.{◌≡◌, List, Option, ℕ}
use Rattle.leaps.specs.Leaps.{plains}
use Rattle.leaps.specs.CallLists.{Call, calls, clocks_accepted, results_by}
use Rattle.r6501q_chip.specs.R6501q.{World, system, machine}

-- Of a list of calls, a start, and the halt address, or none, that 02, U4, gives "all calls of a list": what the calls
-- leave, and the result of each, is what n plain clocks say.
abbrev pub Fair : Option ℕ → List Call → World → Type 0
Fair halt cs w =
    calls (machine halt) cs w ≡ record {
      world = plains (system halt) (clocks_accepted (machine halt) cs w) w;
      results = results_by (machine halt) cs w;
    }
