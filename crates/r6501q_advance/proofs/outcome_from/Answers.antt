use native.Mathlib.Omega.{arith}
use Prim.Native.Nat.{◌+◌, ◌-◌}
use mathlib.Core.Path.{◌≡◌}
use Rattle.r6501q_advance.proofs.outcome_from.Goals as goal

pub returns : goal.returns
returns c =
    let at = c.args in
    let size : at.p.read + at.inputs - at.p.read ≡ at.inputs = omega arith in
    rw (c.clock.ensures, size)
