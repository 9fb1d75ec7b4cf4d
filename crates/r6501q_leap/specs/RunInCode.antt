-- A run in code: what it carries, and what it starts from.
use Rattle.std.specs.Prelude.{◌≡◌, Bool, ◌&&◌, List, ℕ, ◌+◌, ◌≤◌, ltb, eqb, length, Option, is_none}
use Rattle.counters.specs.declared.time.Clocks.{Clocks}
use Rattle.refusals.specs.Refusals.{last_clock}
use Rattle.leaps.specs.Leaps.{Run, run}
use Rattle.r6501q_state.specs.declared.state.State.{State}
use Rattle.r6501q_events.specs.Gaps.{clocks_of, pass_of}
use Rattle.r6501q_advance.specs.declared.Progress.{Progress}
use Rattle.r6501q_advance.specs.declared.lent.LentLists.{LentLists}
use Rattle.r6501q_chip.specs.R6501q.{World, system}
use Rattle.r6501q_advance.specs.World.{world_with}
use Rattle.r6501q_step.specs.Calls.{begin}
use Rattle.r6501q_leap.specs.declared.Leaped.{Leaped}

-- "the gap passed", of what the code carries
abbrev pub passed_by : Clocks → Progress → Progress
passed_by gap p = record { state = pass_of p.state gap; read = p.read; written = p.written; stop = p.stop }

-- clocks are left and nothing has stopped
abbrev pub goes_on : Leaped → Bool
goes_on l = ltb 0 l.left.0 && is_none l.progress.stop

-- what the code has come to, and the run of what is left
abbrev pub run_from : Option ℕ → Leaped → List ℕ → List ℕ → List ℕ → List ℕ → List ℕ → Run World
run_from halt l memory input_clocks input_codes output_clocks output_words =
    let w = world_with l.progress memory input_clocks input_codes output_clocks output_words in
    let r = run (system halt) l.left.0 w in
    record { world = r.world; leaps = l.leaps + r.leaps }

-- and what it has come to once it goes on no more
abbrev pub run_ended : Leaped → List ℕ → List ℕ → List ℕ → List ℕ → List ℕ → Run World
run_ended l memory input_clocks input_codes output_clocks output_words =
    record { world = world_with l.progress memory input_clocks input_codes output_clocks output_words; leaps = l.leaps }

-- a run that has just begun
abbrev pub begin_run : State → ℕ → Leaped
begin_run s n = record { progress = begin s; left = clocks_of n; leaps = 0 }

-- what holds at each leap's start, or once a run is over
pub record Leaping (p : Progress) (left : ℕ) (input_clocks input_codes output_clocks output_words : List ℕ) : Type 0 where
  pub clock : p.state.clock + left ≤ last_clock
  pub read : p.read ≤ length input_clocks
  pub inputs : length input_clocks ≡ length input_codes
  pub outputs : length output_clocks ≡ length output_words
  pub written : p.written ≤ length output_clocks

-- on the lists that are lent
abbrev pub LeapingOn : Progress → ℕ → LentLists → Type 0
LeapingOn p left lists =
    Leaping p left lists.inputclocks.now lists.inputcodes.now lists.outputclocks.now lists.outputwords.now
