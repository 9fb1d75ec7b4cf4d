use Rattle.serial_receiver.specs.Receiver.{look_taken}
use borrow.Author.Tests.{lt-ltb, le-ltb, eq-eqb, ne_eqb}
use Rattle.serial_receiver.proofs.Receiver.take_look.Goals as goal

pub returns-then-self-lt7 : goal.returns-then-self-lt7
unfolding look_taken
returns-then-self-lt7 c = rw (lt-ltb _ _ c.if-self-lt7.true)

pub returns-then-self-eq0 : goal.returns-then-self-eq0
unfolding look_taken
returns-then-self-eq0 c = rw (
  ← c.with_level.ensures,
  ← c.saturating_sub.ensures,
  ← c.end_frame.ensures,
  eq-eqb _ _ c.if-self-eq0.true,
  le-ltb _ _ c.if-self-lt7.false,
)

pub returns : goal.returns
unfolding look_taken
returns c = rw (
  ← c.with_level.ensures,
  ← c.saturating_sub.ensures,
  ne_eqb _ _ c.if-self-eq0.false,
  le-ltb _ _ c.if-self-lt7.false,
)
