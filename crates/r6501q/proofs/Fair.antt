-- Demand 3 of the exported calls: where flags and none waiting fit, a list of them is a list of the library's; else
-- each is refused and hands on.
use mathlib.Core.Path.{◌≡◌, refl, sym, ap, ◌∙◌}
use mathlib.Core.Bool.{Bool, true, false, not, ◌||◌, cond}
use mathlib.Core.List.{List, [], ◌∷◌}
use Prim.Native.Nat.{ℕ, ◌≤◌}
use native.Mathlib.Omega.{arith}
use lib.Dec.{ltb, eqb}
use lib.ListN.{length, drop}
use borrow.Author.Tests.{eqb-true}
use Rattle.refusals.specs.Refusals.{refusal_of}
use Rattle.leaps.specs.CallLists.{Call, count_of, call_of, Listed, listed, calls}
use Rattle.leaps.specs.Calls.{call_start, refused_handed, lent_of, after_call_of, Room}
use Rattle.leaps.proofs.Calls.{refusal_no_stop, refused_hands_on}
use Rattle.r6501q_chip.specs.R6501q.{World, Handed, Result, r6501q_limits, machine}
use Rattle.r6501q_run.proofs.Fair.{fair}
use Rattle.r6501q_host.specs.declared.HostState.{HostState}
use Rattle.r6501q_host.specs.Host.{state_from_host, halt_of, flags_fit, host_state}
use Rattle.r6501q.specs.Calls.{HostWorld, HostHanded, world_from_host, host_world, host_handed_of, host_refusal_of}
use Rattle.r6501q.specs.Calls.{host_call}
use Rattle.r6501q.specs.CallLists.{HostListed, host_called, host_calls, host_results, host_plain, refused_each}
use Rattle.r6501q.specs.CallLists.{HostFair}
use Rattle.r6501q.proofs.Laws.{state_kept, state_fits, host_kept}

-- ---- flags and none waiting fit

-- an exported call is the library's
called : (halt : ℕ) (c : Call) (w : HostWorld) → flags_fit w.state ≡ true
    → host_called halt c (lent_of w) ≡ host_handed_of (call_of (machine (halt_of halt)) c (lent_of (world_from_host w)))
unfolding host_call
called halt c w e = rw e

-- and leaves what the library's leaves
after_same : (w : HostWorld) (h : Handed) → after_call_of w (host_handed_of h) ≡ host_world (after_call_of (world_from_host w) h)
unfolding after_call_of
after_same w h = refl

-- what the library leaves, seen by the host and back, is itself
world_kept : (w : World) → world_from_host (host_world w) ≡ w
world_kept w = rw (state_kept w.state)

back_kept : (w : HostWorld) → flags_fit w.state ≡ true → host_world (world_from_host w) ≡ w
back_kept w e = rw (host_kept w.state e)

abbrev host_of : Listed World Result → HostListed
host_of l = record { world = host_world l.world; results = host_results l.results }

pub host_calls_lem : (halt : ℕ) (cs : List Call) (w : HostWorld) → flags_fit w.state ≡ true
    → host_calls halt cs w ≡ host_of (calls (machine (halt_of halt)) cs (world_from_host w))
unfolding host_calls calls host_results
host_calls_lem halt [] w e = rw (back_kept w e)
host_calls_lem halt (c ∷ cs) w e = by_stop (eqb w.stop 0) refl (host_calls_lem halt cs)
  where
    next : World
    next = after_call_of (world_from_host w) (call_of (machine (halt_of halt)) c (lent_of (world_from_host w)))

    by_stop : (t : Bool) → eqb w.stop 0 ≡ t
        → ((v : HostWorld) → flags_fit v.state ≡ true
        → host_calls halt cs v ≡ host_of (calls (machine (halt_of halt)) cs (world_from_host v)))
        → host_calls halt (c ∷ cs) w ≡ host_of (calls (machine (halt_of halt)) (c ∷ cs) (world_from_host w))
    by_stop true q later =
        rw (q, host_calls, calls)
        (rw (
          called halt c w e,
          after_same w (call_of (machine (halt_of halt)) c (lent_of (world_from_host w))),
          later (host_world next) (state_fits next.state),
          world_kept next,
        ))
    by_stop false q later = rw (q, host_calls, calls) (rw (back_kept w e))

-- ---- a flag is above 1

-- the number does not hang on the lists
flag_number_lem : (clock bytes : ℕ) (clocks codes : List ℕ) (times words times' words' n : ℕ)
    → refusal_of r6501q_limits false clock bytes clocks codes times words n
    ≡ refusal_of r6501q_limits false clock bytes clocks codes times' words' n
unfolding refusal_of
flag_number_lem clock bytes clocks codes times words times' words' n = refl

refused_lent : (halt : ℕ) (c : Call) (w : HostWorld) → flags_fit w.state ≡ false
    → host_called halt c (lent_of w) ≡ refused_handed (host_refusal_of false (count_of c) w) (lent_of w)
unfolding host_call
refused_lent halt c w e =
    rw (
      e,
      flag_number_lem w.state.clock (length w.memory) w.input_clocks w.input_codes
          (length (lent_of w).output_clocks)
          (length (lent_of w).output_words) (length w.output_clocks) (length w.output_words) (count_of c),
    )

host_refused_lem : (halt : ℕ) (cs : List Call) (w : HostWorld) → flags_fit w.state ≡ false
    → host_calls halt cs w ≡ record { world = w; results = refused_each cs w }
unfolding host_calls refused_each
host_refused_lem halt [] w e = refl
host_refused_lem halt (c ∷ cs) w e = by_stop (eqb w.stop 0) refl (host_refused_lem halt cs w e)
  where
    by_stop : (t : Bool) → eqb w.stop 0 ≡ t → host_calls halt cs w ≡ record { world = w; results = refused_each cs w }
        → host_calls halt (c ∷ cs) w ≡ record { world = w; results = refused_each (c ∷ cs) w }
    by_stop true q later =
        let number = host_refusal_of false (count_of c) w in
        let none =
        refusal_no_stop r6501q_limits false w.state.clock (length w.memory) w.input_clocks w.input_codes
        (length w.output_clocks) (length w.output_words) (count_of c) in
        rw (q, host_calls, refused_each)
        (rw (refused_lent halt c w e, refused_hands_on number w none (eqb-true w.stop 0 q), later))
    by_stop false q later = rw (q, host_calls, refused_each)

-- ---- Demand 3 of the exported calls, whatever the flags and the number that stands for a halt address
pub host_fair : (halt : ℕ) (cs : List Call) (w : HostWorld) → Room w → HostFair halt cs w
host_fair halt cs w room = by_flags (flags_fit w.state) refl
  where
    by_flags : (t : Bool) → flags_fit w.state ≡ t
        → host_calls halt cs w ≡ cond t (host_plain halt cs w) (record { world = w; results = refused_each cs w })
    by_flags true e =
        host_calls_lem halt cs w e
        ∙ ap host_of (fair (halt_of halt) cs (world_from_host w)
        (record { output_clocks = room.output_clocks; output_words = room.output_words }))
    by_flags false e = host_refused_lem halt cs w e

-- the same from any state, memory and lists
pub host_fair_start : (halt : ℕ) (cs : List Call) (h : HostState)
    (memory input_clocks input_codes output_clocks output_words : List ℕ)
    → HostFair halt cs (call_start h memory input_clocks input_codes output_clocks output_words)
host_fair_start halt cs h memory input_clocks input_codes output_clocks output_words =
    host_fair halt cs _ (record { output_clocks = omega arith; output_words = omega arith })
