use mathlib.Core.Path.{refl}
use Rattle.r6501q_span_reads.specs.Steady.{steady_ask}
use Rattle.r6501q_span_reads.proofs.steady.steady_ask.Goals as goal

pub returns : goal.returns
unfolding steady_ask
returns c = rw c.steady_at.ensures refl
