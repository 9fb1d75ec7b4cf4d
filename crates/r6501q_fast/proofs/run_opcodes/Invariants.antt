use mathlib.Core.Path.{◌≡◌}
use Prim.Native.Nat.{◌-◌}
use lib.ListN.{length}
use Rattle.page_sums.specs.PageSums.{sums_after}
use Rattle.cpu.specs.Work.{WithinSpan}
use Rattle.r6501q_fast.specs.Instructions.{ByInstructions}
use Rattle.r6501q_fast.proofs.run_opcodes.Given as goal

abbrev pub invariant-loop-w : goal.invariant-loop-w
invariant-loop-w l = record {
  within : WithinSpan l.w l.span.0;
  ran : ByInstructions l.halt l.span.0 l.ticking l.initial.w l.initial.memory l.w l.memory l.shared;
  summed : l.sums ≡ sums_after l.initial.sums l.initial.memory l.memory;
  kept : length l.memory ≡ length l.initial.memory;
}

abbrev pub decreases-loop-w : goal.decreases-loop-w
decreases-loop-w l = l.span.0 - l.w.gone.0
