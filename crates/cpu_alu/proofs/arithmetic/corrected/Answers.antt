use Rattle.cpu_alu.specs.Arithmetic.{corrected}
use borrow.Author.Tests.{le-leb, lt-leb}
use Rattle.cpu_alu.proofs.arithmetic.corrected.Goals as goal

pub returns-then-sum-ge160 : goal.returns-then-sum-ge160
unfolding corrected
returns-then-sum-ge160 c = rw (le-leb _ _ c.if-sum-ge160.true)

pub returns-else-sum-ge160 : goal.returns-else-sum-ge160
unfolding corrected
returns-else-sum-ge160 c = rw (lt-leb _ _ c.if-sum-ge160.false)
