use Rattle.std.proofs.Common.{refl}
use Rattle.cpu_access.specs.Stack.{written_over}
use Rattle.cpu_access.proofs.stack.written_over.Goals as goal

pub returns-then-writes-address : goal.returns-then-writes-address
unfolding written_over
returns-then-writes-address c = rw c.if-writes-address.true refl

pub returns-then-writes-address-2 : goal.returns-then-writes-address-2
unfolding written_over
returns-then-writes-address-2 c = rw (c.if-writes-address-2.true, c.if-writes-address.false) refl

pub returns-then-writes-address-3 : goal.returns-then-writes-address-3
unfolding written_over
returns-then-writes-address-3 c = rw (
  c.if-writes-address-3.true,
  c.if-writes-address-2.false,
  c.if-writes-address.false,
) refl

pub returns : goal.returns
unfolding written_over
returns c = rw (
  c.if-writes-address-3.false,
  c.if-writes-address-2.false,
  c.if-writes-address.false,
) refl
