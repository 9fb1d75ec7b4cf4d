-- The calls of programs in C and Rust: the library's own, on the state that the host's stands for.
use Rattle.std.specs.Prelude.{◌≡◌, Bool, true, false, ◌&&◌, cond, List, ℕ, length}
use Rattle.page_sums.specs.PageSums.{total_call}
use Rattle.bit_rate.specs.BitRate.{latch_for}
use Rattle.refusals.specs.Refusals.{refusal_of}
use Rattle.leaps.specs.World as leaps
use Rattle.leaps.specs.Calls as calls
use Rattle.leaps.specs.Calls.{refused_handed}
use Rattle.leaps.specs.Lent.{Lent}
use Rattle.r6501q_state.specs.State.{well_formed}
use Rattle.r6501q_chip.specs.R6501q.{World, Handed, Result, r6501q_limits}
use Rattle.tape.specs.Tapes.{load_of, load_with_sums_of}
use Rattle.r6501q_host.specs.declared.HostState.{HostState}
use Rattle.r6501q_host.specs.declared.HostResult.{HostResult}
use Rattle.r6501q_host.specs.declared.HostLoadResult.{HostLoadResult}
use Rattle.r6501q_host.specs.declared.HostLatchResult.{HostLatchResult}
use Rattle.r6501q_host.specs.declared.HostTotalResult.{HostTotalResult}
use Rattle.r6501q_host.specs.Host.{state_from_host, flags_fit, host_state, host_load_result, host_total_result}
use Rattle.r6501q_host.specs.Host.{host_latch_result}

-- "Well-formed: every field is within its range here", the flags too
abbrev pub host_well_formed : HostState → Bool
host_well_formed h = flags_fit h && well_formed (state_from_host h)

-- the chip with its memory and lists as the host holds them, and what an exported call hands back
abbrev pub HostWorld : Type 0
HostWorld = leaps.WorldOf HostState

abbrev pub HostHanded : Type 0
HostHanded = calls.HandedOf HostState

-- the result, and the lent lists as they are left
abbrev pub host_handed : HostResult → List ℕ → List ℕ → List ℕ → HostHanded
host_handed r memory output_clocks output_words = record {
  result = record { number = r.number; state = r.state; leaps = r.leaps; read = r.read; written = r.written };
  memory = memory;
  output_clocks = output_clocks;
  output_words = output_words;
}

-- the result of a call, and the lent lists at its exit
abbrev pub host_at_exit : HostResult → Lent → Lent → Lent → HostHanded
host_at_exit r memory output_clocks output_words =
    host_handed r memory.exit.now output_clocks.exit.now output_words.exit.now

-- the library's world that a host's stands for, and back
abbrev pub world_from_host : HostWorld → World
world_from_host w = record {
  state = state_from_host w.state;
  memory = w.memory;
  input_clocks = w.input_clocks;
  input_codes = w.input_codes;
  output_clocks = w.output_clocks;
  output_words = w.output_words;
  read = w.read;
  written = w.written;
  stop = w.stop;
}

abbrev pub host_world : World → HostWorld
host_world w = record {
  state = host_state w.state;
  memory = w.memory;
  input_clocks = w.input_clocks;
  input_codes = w.input_codes;
  output_clocks = w.output_clocks;
  output_words = w.output_words;
  read = w.read;
  written = w.written;
  stop = w.stop;
}

-- what the library hands back, as the host has it
abbrev pub host_result_of : Result → calls.ResultOf HostState
host_result_of r = record {
  number = r.number;
  state = host_state r.state;
  leaps = r.leaps;
  read = r.read;
  written = r.written;
}

abbrev pub host_handed_of : Handed → HostHanded
host_handed_of h = record {
  result = host_result_of h.result;
  memory = h.memory;
  output_clocks = h.output_clocks;
  output_words = h.output_words;
}

-- the number of the refusal of an exported call for n clocks, or 0: the same table, in which the state is well-formed
-- or not
abbrev pub host_refusal_of : Bool → ℕ → HostWorld → ℕ
host_refusal_of formed n w =
    refusal_of r6501q_limits formed w.state.clock (length w.memory) w.input_clocks w.input_codes
    (length w.output_clocks) (length w.output_words) n

-- an exported call for n clocks: where flags and none waiting fit, the library's; else the state is not well-formed,
-- and the call is refused
unfoldable pub host_call : (World → Handed) → ℕ → HostWorld → HostHanded
host_call call n w =
    cond (flags_fit w.state) (host_handed_of (call (world_from_host w))) (refused_handed (host_refusal_of false n w) w)

-- what a load hands back, and memory after it
pub record HostLoaded : Type 0 where
  pub result : HostLoadResult
  pub memory : List ℕ

abbrev pub host_loaded : HostLoadResult → List ℕ → HostLoaded
host_loaded r memory = record { result = r; memory = memory }

-- a load by the host
abbrev pub host_load : List ℕ → List ℕ → HostLoaded
host_load tape memory = host_loaded (host_load_result (load_of tape memory).result) (load_of tape memory).memory

-- 02, U7: a load with page sums by the host, and the call for the total
abbrev pub host_load_with_sums : List ℕ → List ℕ → List ℕ → HostLoaded
host_load_with_sums tape memory sums =
    let l = load_with_sums_of tape memory sums in host_loaded (host_load_result l.result) l.memory

abbrev pub host_total : List ℕ → HostTotalResult
host_total sums = host_total_result (total_call sums)

-- 02, U2 and U9: the latch call by the host
abbrev pub host_latch : ℕ → ℕ → ℕ → HostLatchResult
host_latch f b t = host_latch_result (latch_for f b t)
