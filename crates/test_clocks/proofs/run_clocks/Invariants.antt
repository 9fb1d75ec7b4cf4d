use Rattle.std.proofs.Common.{length, ◌≤◌}
use Rattle.test_clocks.proofs.run_clocks.Given as goal

abbrev pub invariant-loop-done : goal.invariant-loop-done
invariant-loop-done l = (l.p.read ≤ length l.clocks) × (l.p.written ≤ length l.times)
