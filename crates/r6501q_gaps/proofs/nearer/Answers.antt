use native.Mathlib.Omega.{arith}
use Prim.Native.Nat.{min}
use mathlib.Core.Path.{◌≡◌}
use Rattle.r6501q_gaps.proofs.nearer.Goals as goal

pub returns-then-a-b : goal.returns-then-a-b
returns-then-a-b c =
    let e : min c.args.a.0 c.args.b.0
    ≡ c.args.a.0 = omega (arith, c.if-a-b.true) in
    rw e

pub returns : goal.returns
returns c =
    let e : min c.args.a.0 c.args.b.0
    ≡ c.args.b.0 = omega (arith, c.if-a-b.false) in
    rw e
