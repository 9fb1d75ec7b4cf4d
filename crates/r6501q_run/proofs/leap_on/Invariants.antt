use Rattle.r6501q_advance.specs.World.{Summed, SameOutputs}
use Rattle.r6501q_run.proofs.Rests.{RunSoFar}
use Rattle.r6501q_run.proofs.leap_on.Given as goal

-- what the loop keeps, beside what the types do
abbrev pub invariant-loop-halt : goal.invariant-loop-halt
invariant-loop-halt l = record {
  run : RunSoFar l.halt l.initial.at l.initial.memory.bytes.now l.initial.lists.inputclocks.now
      l.initial.lists.inputcodes.now l.initial.lists.outputclocks.now l.initial.lists.outputwords.now
      l.memory.bytes.now l.lists.outputclocks.now l.lists.outputwords.now l.at l.lists.inputclocks.now
      l.lists.inputcodes.now;
  summed : Summed l.initial.memory l.memory;
  outputs : SameOutputs l.initial.lists l.lists;
}

abbrev pub decreases-loop-halt : goal.decreases-loop-halt
decreases-loop-halt l = l.at.left.0
