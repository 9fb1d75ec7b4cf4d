use Prim.Native.Nat.{◌-◌}
use mathlib.Core.Path.{◌≡◌}
use Rattle.r6501q_unseen.specs.Ticks.{with_levels}
use Rattle.r6501q_unseen.proofs.receiver.with_levels.Given as goal

abbrev pub invariant-loop : goal.invariant-loop
invariant-loop l = with_levels (l.bits - l.counter) l.register l.high ≡ with_levels l.bits l.initial.register l.high
