use mathlib.Core.Bool.{cond}
use mathlib.Core.Path.{◌≡◌}
use Prim.Native.Nat.{◌+◌, ◌-◌}
use Rattle.page_sums.specs.PageSums.{sums_after}
use Rattle.r6501q_span_leaps.proofs.Ticked.{Within}
use Rattle.r6501q_span_leaps.proofs.leap_within.Given as goal

abbrev pub invariant-loop-on : goal.invariant-loop-on
invariant-loop-on l = Within l.halt l.at l.inputclocks l.span.0 l.initial.memory l.memory l.v l.shared
    × (l.sums ≡ sums_after l.initial.sums l.initial.memory l.memory)

abbrev pub decreases-loop-on : goal.decreases-loop-on
decreases-loop-on l = cond l.on (l.span.0 - l.v.work.gone.0 + 1) 0
