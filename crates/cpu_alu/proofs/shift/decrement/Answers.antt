use Rattle.cpu_alu.specs.Shift.{decrement_of}
use Rattle.cpu_alu.proofs.shift.decrement.Goals as goal

pub returns : goal.returns
unfolding decrement_of
returns c = rw c.resulting.ensures
