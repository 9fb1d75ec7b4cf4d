use mathlib.Core.Path.{◌≡◌}
use lib.ListN.{drop}
use Rattle.r6501q_clock.specs.Clock.{with_inputs}
use Rattle.r6501q_clock.proofs.apply_inputs.Given as goal

abbrev pub invariant-loop-code : goal.invariant-loop-code
invariant-loop-code l = with_inputs l.set (drop l.code-index l.codes) ≡ with_inputs l.initial.set l.codes
