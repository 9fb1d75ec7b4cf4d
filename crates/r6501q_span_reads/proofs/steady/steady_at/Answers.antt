use mathlib.Core.Path.{refl}
use Rattle.r6501q_span_reads.specs.Steady.{steady_at}
use Rattle.r6501q_span_reads.proofs.steady.steady_at.Goals as goal

pub returns : goal.returns
unfolding steady_at
returns c = refl
