use mathlib.Core.Bool.{false≢true}
use mathlib.Core.Path.{sym, ◌∙◌}
use native.Mathlib.Omega.{arith}
use Rattle.r6501q_unseen.proofs.before_b.Goals as goal

pub returns-then-counting_b : goal.returns-then-counting_b
returns-then-counting_b c = (rw c.nearer.ensures (omega arith), λ _. rw c.nearer.ensures (omega arith))

pub returns : goal.returns
returns c = (omega arith, λ e. absurd (false≢true (sym c.if-counting_b.false ∙ c.counting_b.ensures ∙ e)))
