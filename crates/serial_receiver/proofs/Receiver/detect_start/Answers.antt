use Rattle.serial_receiver.specs.Receiver.{start_detected}
use mathlib.Core.Path.{refl}
use native.Mathlib.Omega.{arith}
use borrow.Author.Tests.{lt-ltb, le-ltb}
use Rattle.serial_receiver.proofs.Receiver.detect_start.Goals as goal

pub returns-then-high : goal.returns-then-high
unfolding start_detected
returns-then-high c = rw c.if-high.true

pub returns-then-self-lt3 : goal.returns-then-self-lt3
unfolding start_detected
returns-then-self-lt3 c = rw (
  lt-ltb c.args.self.subinterval 3 (omega arith),
  c.if-high.false,
) refl

pub returns : goal.returns
unfolding start_detected
returns c = rw (
  c.bits_after_start.ensures,
  le-ltb c.args.self.subinterval 3 (omega arith),
  c.if-high.false,
) refl
