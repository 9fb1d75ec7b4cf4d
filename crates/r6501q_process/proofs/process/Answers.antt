use Rattle.r6501q_cpu.specs.Processor.{processor_of}
use borrow.Author.Tests.{lt-ltb, le-ltb}
use Rattle.r6501q_process.proofs.process.Goals as goal

pub returns-then-s-gt0 : goal.returns-then-s-gt0
unfolding processor_of
returns-then-s-gt0 c = rw (← c.wait_on.ensures, lt-ltb _ _ c.if-s-gt0.true, c.if-s.true)

pub returns-then-s : goal.returns-then-s
unfolding processor_of
returns-then-s c = rw (← c.start.ensures, le-ltb _ _ c.if-s-gt0.false, c.if-s.true)

pub returns : goal.returns
unfolding processor_of
returns c = rw (← c.without_writes.ensures, c.if-s.false)
