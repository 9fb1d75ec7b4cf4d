use Rattle.std.proofs.Common.{refl, le-ltb, lt-ltb}
use Rattle.cpu_access.specs.Bus.{ask_of}
use Rattle.cpu_access.proofs.Bus.ask.Goals as goal

pub returns-then-used-answers : goal.returns-then-used-answers
unfolding ask_of
returns-then-used-answers c = rw (lt-ltb _ _ c.if-used-answers.true) refl

pub returns-then-self : goal.returns-then-self
unfolding ask_of
returns-then-self c = rw (c.if-self.true, le-ltb _ _ c.if-used-answers.false) refl

pub returns : goal.returns
unfolding ask_of
returns c = rw (c.if-self.false, le-ltb _ _ c.if-used-answers.false) refl
