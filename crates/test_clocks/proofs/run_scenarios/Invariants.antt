use Rattle.std.proofs.Common.{length, ◌-◌, ◌≤◌}
use Rattle.test_clocks.proofs.run_scenarios.Given as goal

abbrev pub invariant-loop-end : goal.invariant-loop-end
invariant-loop-end g l = l.from ≤ l.end

abbrev pub decreases-loop-end : goal.decreases-loop-end
decreases-loop-end g l = length l.text - l.end
