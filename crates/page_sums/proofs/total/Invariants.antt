use Rattle.page_sums.specs.PageSums.{total_of}
use mathlib.Core.Path.{◌≡◌}
use Prim.Native.Nat.{◌+◌, ◌*◌, ◌≤◌}
use lib.ListN.{drop}
use Rattle.page_sums.proofs.total.Given as goal

abbrev pub invariant-loop-sum : goal.invariant-loop-sum
invariant-loop-sum l = (l.total ≤ 65535 * l.sum-index)
    × (l.total + total_of (drop l.sum-index l.sums) ≡ total_of l.sums)
