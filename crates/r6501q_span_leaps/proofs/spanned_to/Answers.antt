use mathlib.Core.Path.{refl}
use Rattle.r6501q_span_leaps.proofs.spanned_to.Goals as goal

pub returns : goal.returns
returns c = rw (
  ← c.working_state-state.ensures,
  ← c.ticks_in-ticks.ensures,
) refl
