-- The R6501Q as an instance of the theory of leaps: the definitions of its parts, under the theory's names.
use Rattle.std.specs.Prelude.{Bool, cond, List, ℕ, Option, is_some, unwrap_or, Ok, Err}
use Rattle.memory.specs.Memory.{memory_length}
use Rattle.stops.specs.Stops.{stop_number}
use Rattle.refusals.specs.declared.Limits.{Limits}
use Rattle.leaps.specs.Leaps.{System}
use Rattle.cpu_access.specs.declared.stack.Writes.{Writes}
use Rattle.cpu_access.specs.Halt.{halts}
use Rattle.leaps.specs.Chip.{ChipRules, ClockEnd, ClockOutcome, stopped, ended}
use Rattle.leaps.specs.World as leaps
use Rattle.leaps.specs.CallLists.{Machine}
use Rattle.leaps.specs.Calls as calls
use Rattle.r6501q_state.specs.declared.state.State.{State}
use Rattle.r6501q_state.specs.State.{well_formed}
use Rattle.r6501q_state.specs.Inputs.{last_pin}
use Rattle.r6501q_state.specs.Pins.{driven_word}
use Rattle.r6501q_clock.specs.declared.Ended.{Ended}
use Rattle.r6501q_clock.specs.Clock.{Clocked, halt_stop, clock_of}
use Rattle.memory_writes.specs.Commit.{committed}
use Rattle.r6501q_events.specs.Events.{event_of}
use Rattle.r6501q_events.specs.Gaps.{clocks_of, gap_of, pass_of}

-- 01, What is handed back: "1 | memory not 65,536 bytes"; 01, Pin lists: "33 RES"
abbrev pub r6501q_limits : Limits
r6501q_limits = record { memory = memory_length; pin = last_pin }

-- the word after a clock that is done: its record's, and where there is none the driven word, which is as before
abbrev pub word_after : Ended → ℕ
word_after e = unwrap_or e.output (driven_word e.state.peripherals)

-- 02, U4: "a plain clock with such a write is done, then stops with 12"
abbrev pub stop_after : Option ℕ → Writes → ℕ
stop_after halt writes = cond (halts halt writes) halt_stop 0

-- a clock that is done: its writes are put into memory, and one at the halt address stops it
abbrev pub end_of : Option ℕ → List ℕ → Ended → ClockEnd State
end_of halt memory e = record {
  state = e.state;
  memory = committed memory e.writes;
  differs = is_some e.output;
  word = word_after e;
  stop = stop_after halt e.writes;
}

-- "6 and 7 for that same clock come first"
abbrev pub clock_outcome : Option ℕ → List ℕ → Clocked → ClockOutcome State
clock_outcome halt memory (Err stop) = stopped (stop_number stop)
clock_outcome halt memory (Ok e) = ended (end_of halt memory e)

-- by the halt address, or none, that "all calls of a list are given"
abbrev pub r6501q : Option ℕ → ChipRules State
r6501q halt = record {
  limits = r6501q_limits;
  well_formed = well_formed;
  clock = λ (s : State). s.clock;
  outcome = λ (s : State) (codes memory : List ℕ) (free : Bool). clock_outcome halt memory (clock_of s codes memory free);
  event = event_of;
  gap = λ (n : ℕ) (s : State) (clocks : List ℕ). (gap_of n s clocks).0;
  pass = λ (g : ℕ) (s : State). pass_of s (clocks_of g);
}

-- the chip with its memory and lists; what a call on it hands back, and its result
abbrev pub World : Type 0
World = leaps.WorldOf State

abbrev pub Handed : Type 0
Handed = calls.HandedOf State

abbrev pub Result : Type 0
Result = calls.ResultOf State

-- one plain clock
abbrev pub plain : Option ℕ → World → World
plain halt = leaps.plain_of (r6501q halt)

-- as a machine that leaps, and as one that calls move
abbrev pub system : Option ℕ → System World
system halt = leaps.system_of (r6501q halt)

abbrev pub machine : Option ℕ → Machine World Handed Result
machine halt = calls.machine_of (r6501q halt)
