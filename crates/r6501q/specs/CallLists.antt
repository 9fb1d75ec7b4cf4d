-- Demand 3 over the exported calls: a list of calls as the host makes it, and what plain clocks say of it.
use Rattle.std.specs.Prelude.{◌≡◌, Bool, true, false, cond, List, [], ◌∷◌, ℕ, eqb}
use Rattle.leaps.specs.Leaps.{plains}
use Rattle.leaps.specs.CallLists.{Call, count_of, call_of, Listed, listed, clocks_accepted, results_by}
use Rattle.leaps.specs.Calls as calls
use Rattle.leaps.specs.Calls.{lent_of, after_call_of, refused_with}
use Rattle.r6501q_chip.specs.R6501q.{World, Result, system, machine}
use Rattle.r6501q_host.specs.declared.HostState.{HostState}
use Rattle.r6501q_host.specs.Host.{halt_of, flags_fit}
use Rattle.r6501q.specs.Calls.{HostWorld, HostHanded, world_from_host, host_world, host_result_of, host_refusal_of}
use Rattle.r6501q.specs.Calls.{host_call}

abbrev pub HostListed : Type 0
HostListed = Listed HostWorld (calls.ResultOf HostState)

-- an exported call: the definitions that the contracts of `r6501q_step` and `r6501q_run` cite
abbrev pub host_called : ℕ → Call → HostWorld → HostHanded
host_called halt c w = host_call (call_of (machine (halt_of halt)) c) (count_of c) w

-- the exported calls one after the other, each given the same number; "a stop (6, 7) ends the list", and so does 12
unfoldable pub host_calls : ℕ → List Call → HostWorld → HostListed
host_calls halt [] w = record { world = w; results = [] }
host_calls halt (c ∷ cs) w =
    elim (eqb w.stop 0) [
      | true ↦ let h = host_called halt c (lent_of w) in listed h.result (host_calls halt cs (after_call_of w h))
      | false ↦ record { world = w; results = [] }
    ]

-- results as the host has them
unfoldable pub host_results : List Result → List (calls.ResultOf HostState)
host_results [] = []
host_results (r ∷ rs) = host_result_of r ∷ host_results rs

-- ---- by plain clocks alone

-- where flags and none waiting fit: what n plain clocks of the library's world say
abbrev pub host_plain : ℕ → List Call → HostWorld → HostListed
host_plain halt cs w =
    let v = world_from_host w in
    record {
      world = host_world (plains (system (halt_of halt)) (clocks_accepted (machine (halt_of halt)) cs v) v);
      results = host_results (results_by (machine (halt_of halt)) cs v);
    }

-- where a flag is above 1: each call is refused and hands on what it got
unfoldable pub refused_each : List Call → HostWorld → List (calls.ResultOf HostState)
refused_each [] w = []
refused_each (c ∷ cs) w =
    elim (eqb w.stop 0) [
      | true ↦ refused_with (host_refusal_of false (count_of c) w) w.state ∷ refused_each cs w
      | false ↦ []
    ]

-- Demand 3 of the exported calls, of a list of them, the number that each is given, and any start
abbrev pub HostFair : ℕ → List Call → HostWorld → Type 0
HostFair halt cs w =
    host_calls halt cs w
    ≡ cond (flags_fit w.state) (host_plain halt cs w) (record { world = w; results = refused_each cs w })
