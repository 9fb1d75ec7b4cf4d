use mathlib.Core.Path.{refl}
use native.Mathlib.Omega.{arith}
use Rattle.serial_transmitter.specs.Transmitter.{next_phase}
use borrow.Author.Tests.{lt-ltb, le-ltb}
use Rattle.serial_transmitter.proofs.next_phase.Goals as goal

pub returns-then-phase-lt15 : goal.returns-then-phase-lt15
unfolding next_phase
returns-then-phase-lt15 c = rw (lt-ltb c.args.phase 15 (omega arith)) refl

pub returns : goal.returns
unfolding next_phase
returns c = rw (le-ltb c.args.phase 15 (omega arith)) refl
