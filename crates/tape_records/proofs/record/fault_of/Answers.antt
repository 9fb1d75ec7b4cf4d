use Rattle.tape_records.specs.Records.{fault_of}
use borrow.Author.Tests.{eq-eqb, ne_eqb}
use Rattle.tape_records.proofs.record.fault_of.Goals as goal

pub returns-then-is_malformed : goal.returns-then-is_malformed
unfolding fault_of
returns-then-is_malformed c = rw (← c.is_malformed.ensures, c.if-is_malformed.true)

pub returns-then-sum-check_sum : goal.returns-then-sum-check_sum
unfolding fault_of
returns-then-sum-check_sum c = rw (
  ← c.is_malformed.ensures,
  ← c.sum.ensures,
  ← c.check_sum.ensures,
  ne_eqb _ _ c.if-sum-check_sum.true,
  c.if-is_malformed.false,
)

pub returns : goal.returns
unfolding fault_of
returns c = rw (
  ← c.is_malformed.ensures,
  ← c.sum.ensures,
  ← c.check_sum.ensures,
  eq-eqb _ _ c.if-sum-check_sum.false,
  c.if-is_malformed.false,
)
