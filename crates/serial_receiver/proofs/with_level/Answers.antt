use mathlib.Core.Path.{refl}
use Rattle.serial_receiver.specs.Receiver.{with_level}
use native.Mathlib.Omega.{arith}
use Rattle.serial_receiver.proofs.with_level.Goals as goal

pub returns-then-high : goal.returns-then-high
unfolding with_level
returns-then-high c = rw c.if-high.true refl

pub returns-else-high : goal.returns-else-high
unfolding with_level
returns-else-high c = rw c.if-high.false (omega arith)
