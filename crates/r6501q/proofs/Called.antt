-- An exported call whose flags fit is the library's call on the state that the host's stands for.
use Rattle.std.specs.Prelude.{Option}
use mathlib.Core.Path.{◌≡◌}
use mathlib.Core.Bool.{true}
use mathlib.Core.List.{List}
use Prim.Native.Nat.{ℕ}
use Rattle.leaps.specs.Calls.{call_start}
use Rattle.r6501q_state.specs.declared.state.State.{State}
use Rattle.r6501q_step.specs.declared.CallResult.{CallResult}
use Rattle.r6501q_chip.specs.R6501q.{World, Handed}
use Rattle.r6501q_step.specs.Calls.{handed}
use Rattle.r6501q_host.specs.declared.HostState.{HostState}
use Rattle.r6501q_host.specs.declared.HostResult.{HostResult}
use Rattle.r6501q_host.specs.Host.{state_from_host, flags_fit, host_result}
use Rattle.r6501q.specs.Calls.{host_handed, host_call}

module _ (call : Option ℕ → World → Handed) (n : ℕ) (memory input_clocks input_codes output_clocks output_words : List ℕ) where
  pub host_called_lem : (h : HostState) (s : State) (halt told : Option ℕ) (q : CallResult) (r : HostResult)
      (later times words : List ℕ) → flags_fit h ≡ true → s ≡ state_from_host h → told ≡ halt → r ≡ host_result q
      → handed q later times words ≡ call told (call_start s memory input_clocks input_codes output_clocks output_words)
      → host_handed r later times words
      ≡ host_call (call halt) n (call_start h memory input_clocks input_codes output_clocks output_words)
  unfolding host_call
  host_called_lem h s halt told q r later times words fit e k t went = rw (fit, ← e, ← k, ← went, t)
