use native.Mathlib.Omega.{arith}
use borrow.Author.Tests.{lt-ltb, le-ltb}
use Rattle.record_text.specs.Lines.{digit_of}
use Rattle.record_text.proofs.digit.Goals as goal

pub returns-then-value-lt10 : goal.returns-then-value-lt10
unfolding digit_of
returns-then-value-lt10 c = rw (lt-ltb c.args.value 10 c.if-value-lt10.true)

pub returns : goal.returns
unfolding digit_of
returns c = rw (le-ltb c.args.value 10 c.if-value-lt10.false) (omega arith)
