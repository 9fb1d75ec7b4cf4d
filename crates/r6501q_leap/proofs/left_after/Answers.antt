use Rattle.r6501q_events.specs.Gaps.{clocks_of}
use native.Mathlib.Omega.{arith}
use Prim.Native.Nat.{ℕ, ◌+◌, ◌-◌}
use mathlib.Core.Path.{◌≡◌, ap}
use Rattle.r6501q_leap.proofs.left_after.Goals as goal

pub returns-then-left-gap : goal.returns-then-left-gap
returns-then-left-gap c =
    let at = c.args in
    let none : at.left.0 - (at.gap.0 + 1) ≡ 0 = omega (arith, c.if-left-gap.true) in
    rw none

pub returns : goal.returns
returns c = ap (λ (k : ℕ). clocks_of k) (omega arith)
