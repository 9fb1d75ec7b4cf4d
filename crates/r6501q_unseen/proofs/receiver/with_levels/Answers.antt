use mathlib.Core.Path.{◌≡◌, sym, ◌∙◌}
use Prim.Native.Nat.{◌+◌, ◌-◌}
use native.Mathlib.Omega.{arith}
use Rattle.r6501q_unseen.proofs.Reception.{levels_less, levels_none}
use Rattle.r6501q_unseen.proofs.receiver.with_levels.Goals as goal

pub loop-preserved : goal.loop-preserved
loop-preserved c =
    let left = c.args.bits - c.loop.counter in
    let less : c.args.bits - (c.loop.counter + 1) ≡ left - 1 = omega arith in
    rw (c.with_level-register.ensures, less) (levels_less left _ _ (omega arith) ∙ c.loop.invariant)

pub returns : goal.returns
returns c = sym (levels_none (c.args.bits - c.loop.counter) _ _ (omega arith)) ∙ c.loop.invariant
