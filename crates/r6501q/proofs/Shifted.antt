-- The theorem of the shifted clock, of the exported calls: where flags and none waiting fit, they are the library's.
use mathlib.Core.Path.{◌≡◌, refl, ap, ◌∙◌}
use mathlib.Core.Bool.{true, not, ◌&&◌}
use mathlib.Core.List.{List, [], ◌∷◌, map}
use Prim.Native.Nat.{ℕ}
use lib.Dec.{eqb}
use Rattle.leaps.specs.Leaps.{plains, leap_count}
use Rattle.leaps.specs.CallLists.{Call, single_clock, run_for, count_of, call_of, Listed, calls}
use Rattle.leaps.specs.Calls.{ResultOf, handed_back_of, refusal_in, Room}
use Rattle.leaps.specs.Shifted.{shifted_result, ShiftedWorld, ShiftedHanded, ShiftedListed, clock_refusal, RefusedAlike}
use Rattle.leaps.specs.Shifted.{clocks_fit}
use Rattle.r6501q_state.specs.declared.state.State.{State}
use Rattle.r6501q_chip.specs.R6501q.{World, Handed, Result, r6501q, system, machine}
use Rattle.r6501q_chip.specs.Shifted.{shifted_state}
use Rattle.r6501q_chip.proofs.Shifted.{step_shifted, run_call_shifted}
use Rattle.r6501q_run.proofs.Shifted.{list_shifted, run_past_last}
use Rattle.r6501q_host.specs.declared.HostState.{HostState}
use Rattle.r6501q_host.specs.Host.{state_from_host, halt_of, flags_fit, host_state}
use Rattle.r6501q.specs.Calls.{HostWorld, world_from_host, host_world, host_result_of, host_handed_of, host_call}
use Rattle.r6501q.specs.CallLists.{host_called, host_calls, host_results}
use Rattle.r6501q.specs.Shifted.{host_shifted}
use Rattle.r6501q.proofs.Fair.{host_calls_lem}

module _ (k : ℕ) where
  -- ---- the shift crosses as it is

  from_shifted : (h : HostState) → state_from_host (host_shifted k h) ≡ shifted_state k (state_from_host h)
  unfolding state_from_host
  from_shifted h = refl

  to_shifted : (s : State) → host_state (shifted_state k s) ≡ host_shifted k (host_state s)
  unfolding host_state
  to_shifted s = refl

  fit_shifted : (h : HostState) → flags_fit (host_shifted k h) ≡ flags_fit h
  unfolding flags_fit
  fit_shifted h = refl

  world_from : (w v : HostWorld) → ShiftedWorld host_shifted k w v
      → ShiftedWorld shifted_state k (world_from_host w) (world_from_host v)
  world_from w v r = record {
    state = ap state_from_host r.state ∙ from_shifted w.state;
    memory = r.memory;
    input_clocks = r.input_clocks;
    input_codes = r.input_codes;
    records = r.records;
    read = r.read;
    written = r.written;
    stop = r.stop;
  }

  world_to : (w v : World) → ShiftedWorld shifted_state k w v → ShiftedWorld host_shifted k (host_world w) (host_world v)
  world_to w v r = record {
    state = ap host_state r.state ∙ to_shifted w.state;
    memory = r.memory;
    input_clocks = r.input_clocks;
    input_codes = r.input_codes;
    records = r.records;
    read = r.read;
    written = r.written;
    stop = r.stop;
  }

  result_to : (r : Result)
      → host_result_of (shifted_result shifted_state k r) ≡ shifted_result host_shifted k (host_result_of r)
  result_to r = rw (to_shifted r.state)

  handed_to : (h g : Handed) → ShiftedHanded shifted_state k h g
      → ShiftedHanded host_shifted k (host_handed_of h) (host_handed_of g)
  handed_to h g r = record {
    result = ap host_result_of r.result ∙ result_to h.result;
    memory = r.memory;
    records = r.records;
  }

  results_to : (rs : List Result)
      → host_results (map (shifted_result shifted_state k) rs) ≡ map (shifted_result host_shifted k) (host_results rs)
  unfolding host_results
  results_to [] = refl
  results_to (r ∷ rs) = rw (result_to r, results_to rs)

-- no call of a list is refused with 4, seen by the host
clocks_fit_lem : (rs : List Result) → clocks_fit (host_results rs) ≡ clocks_fit rs
unfolding clocks_fit host_results
clocks_fit_lem [] = refl
clocks_fit_lem (r ∷ rs) = ap (λ t. not (eqb r.number clock_refusal) && t) (clocks_fit_lem rs)

-- an exported call is the library's
call_library : (halt : ℕ) (c : Call) (w : HostWorld) → flags_fit w.state ≡ true
    → host_called halt c w ≡ host_handed_of (call_of (machine (halt_of halt)) c (world_from_host w))
unfolding host_call
call_library halt c w e = rw e

-- ---- From two worlds of the host that are alike but for their clocks, the second k later, with flags that fit:

module _ (halt k : ℕ) (w v : HostWorld) (r : ShiftedWorld host_shifted k w v) (fits : flags_fit w.state ≡ true) where
  later_fits : flags_fit v.state ≡ true
  later_fits = ap flags_fit r.state ∙ fit_shifted k w.state ∙ fits

  -- the exported single clock and the exported run hand back the same but for the clock, leaps too, refused or not,
  -- where 4 is told at both clocks or at neither;
  pub host_call_shifted : (c : Call)
      → RefusedAlike (r6501q (halt_of halt)) (count_of c) (world_from_host w) (world_from_host v)
      → ShiftedHanded host_shifted k (host_called halt c w) (host_called halt c v)
  unfolding call_of count_of
  host_call_shifted c alike =
      rw (call_library halt c w fits, call_library halt c v later_fits)
      (handed_to k (call_of (machine (halt_of halt)) c (world_from_host w))
      (call_of (machine (halt_of halt)) c (world_from_host v)) (by_call c alike))
    where
      by_call : (c : Call) → RefusedAlike (r6501q (halt_of halt)) (count_of c) (world_from_host w) (world_from_host v)
          → ShiftedHanded shifted_state k (call_of (machine (halt_of halt)) c (world_from_host w))
          (call_of (machine (halt_of halt)) c (world_from_host v))
      by_call single_clock alike =
          step_shifted (halt_of halt) k (world_from_host w) (world_from_host v) (world_from k w v r) alike
      by_call (run_for n) alike =
          run_call_shifted (halt_of halt) k (world_from_host w) (world_from_host v) (world_from k w v r) n alike

  module _ (room : Room w) where
    library_room : Room (world_from_host w)
    library_room = record { output_clocks = room.output_clocks; output_words = room.output_words }

    -- any list of exported calls, of which none at the later clock is refused with 4, leaves two such worlds and the
    -- same results but for the clock;
    pub host_list_shifted : (cs : List Call) → clocks_fit (host_calls halt cs v).results ≡ true
        → ShiftedListed host_shifted k (host_calls halt cs w) (host_calls halt cs v)
    host_list_shifted cs none =
        let earlier = calls (machine (halt_of halt)) cs (world_from_host w) in
        let later = calls (machine (halt_of halt)) cs (world_from_host v) in
        let four = rw (host_calls_lem halt cs v later_fits, clocks_fit_lem later.results) at none in
        let l =
        list_shifted (halt_of halt) k (world_from_host w) (world_from_host v) (world_from k w v r) library_room cs four in
        rw (host_calls_lem halt cs w fits, host_calls_lem halt cs v later_fits)
        (record {
          world = world_to k earlier.world later.world l.world;
          results = ap host_results l.results ∙ results_to k earlier.results;
        })

    -- and an exported run that is not refused is, but for the clock, n plain clocks at the later one with document 01's
    -- leaps, past the last clock too.
    pub host_run_past_last : (n : ℕ) → refusal_in (r6501q (halt_of halt)) n (world_from_host w) ≡ 0
        → ShiftedHanded host_shifted k (host_called halt (run_for n) w)
        (host_handed_of (handed_back_of (leap_count (system (halt_of halt)) n (world_from_host v))
        (plains (system (halt_of halt)) n (world_from_host v))))
    unfolding call_of
    host_run_past_last n accepted =
        rw (call_library halt (run_for n) w fits)
        (handed_to k (call_of (machine (halt_of halt)) (run_for n) (world_from_host w)) _
        (run_past_last (halt_of halt) k (world_from_host w) (world_from_host v) (world_from k w v r) library_room n
        accepted))
