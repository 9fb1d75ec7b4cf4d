-- What the code of a call carries, as a world.
use Rattle.std.specs.Prelude.{◌≡◌, List, ℕ, ◌+◌, ◌≤◌, ◌<◌, length, drop, Option, None, Some, is_some}
use Rattle.bits.specs.Bits.{one_where}
use Rattle.std.specs.Bool.{then_some}
use Rattle.stops.specs.declared.Stop.{Stop}
use Rattle.stops.specs.declared.Stop.TheVariants.{Halted}
use Rattle.stops.specs.Stops.{number_of}
use Rattle.refusals.specs.Refusals.{last_clock}
use Rattle.page_sums.specs.PageSums.{sums_after}
use Rattle.cpu_access.specs.declared.stack.Writes.{Writes}
use Rattle.cpu_access.specs.Halt.{halts}
use Rattle.r6501q_clock.specs.declared.Ended.{Ended}
use Rattle.r6501q_advance.specs.declared.Progress.{Progress}
use Rattle.r6501q_advance.specs.declared.lent.SummedMemory.{SummedMemory}
use Rattle.r6501q_advance.specs.declared.lent.LentLists.{LentLists}
use Rattle.r6501q_chip.specs.R6501q.{World}

-- a memory and lists, and how far a call has come with them
abbrev pub world_with : Progress → List ℕ → List ℕ → List ℕ → List ℕ → List ℕ → World
world_with p memory input_clocks input_codes output_clocks output_words = record {
  state = p.state;
  memory = memory;
  input_clocks = drop p.read input_clocks;
  input_codes = drop p.read input_codes;
  output_clocks = output_clocks;
  output_words = output_words;
  read = p.read;
  written = p.written;
  stop = number_of p.stop;
}

-- those that are lent
abbrev pub world_of : Progress → SummedMemory → LentLists → World
world_of p memory lists =
    world_with p memory.bytes.now lists.inputclocks.now lists.inputcodes.now lists.outputclocks.now
    lists.outputwords.now

-- the same memory and sums are lent, and the sums go by the memory
pub record Summed (old new : SummedMemory) : Type 0 where
  pub bytes : new.bytes.ghost_name ≡ old.bytes.ghost_name
  pub sums : new.sums.ghost_name ≡ old.sums.ghost_name
  pub sums_after : new.sums.now ≡ sums_after old.sums.now old.bytes.now new.bytes.now

-- the same output lists are lent
pub record SameOutputs (old new : LentLists) : Type 0 where
  pub outputclocks : new.outputclocks.ghost_name ≡ old.outputclocks.ghost_name
  pub outputwords : new.outputwords.ghost_name ≡ old.outputwords.ghost_name

-- and the same inputs
pub record StillLent (old new : LentLists) : Type 0 where
  pub inputclocks : new.inputclocks ≡ old.inputclocks
  pub inputcodes : new.inputcodes ≡ old.inputcodes
  pub outputs : SameOutputs old new

-- the two ends of a clock, of what the code carries: a stop, and nothing else changes; or the clock done, which has
-- `inputs` inputs
abbrev pub stopped_with : Stop → Progress → Progress
stopped_with stop p = record { state = p.state; read = p.read; written = p.written; stop = Some stop }

-- the stop that a clock with these writes ends in: `stop_after` is its number
abbrev pub halted_after : Option ℕ → Writes → Option Stop
halted_after halt writes = then_some (halts halt writes) Halted

abbrev pub progress_to : Option ℕ → Ended → ℕ → Progress → Progress
progress_to halt e inputs p = record {
  state = e.state;
  read = p.read + inputs;
  written = p.written + one_where (is_some e.output);
  stop = halted_after halt e.writes;
}

-- what a clock in code starts from
pub record Going (p : Progress) (lists : LentLists) : Type 0 where
  pub clock : p.state.clock < last_clock
  pub read : p.read ≤ length lists.inputclocks.now
  pub written : p.written ≤ length lists.outputclocks.now
  pub stop : p.stop ≡ None
