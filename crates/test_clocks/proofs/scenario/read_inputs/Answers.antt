use Prim.Native.Nat.{◌-◌}
use lib.ListN.{length-set}
use native.Mathlib.Omega.{arith}
use Rattle.test_clocks.proofs.scenario.read_inputs.Goals as goal

pub loop-at-preserved : goal.loop-at-preserved
loop-at-preserved c = (simp length-set (omega arith), simp length-set (omega arith), simp length-set (omega arith))
