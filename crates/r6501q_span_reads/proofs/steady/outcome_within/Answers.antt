use mathlib.Core.Path.{refl, sym, ◌∙◌}
use Rattle.r6501q_span_reads.specs.Steady.{outcome_within}
use Rattle.r6501q_span_reads.proofs.steady.outcome_within.Goals as goal

pub returns-in-Undefined : goal.returns-in-Undefined
unfolding outcome_within
returns-in-Undefined c = rw (sym c.instruction-outcome.ensures ∙ c.in-Undefined.is) refl

pub returns-in-Asked : goal.returns-in-Asked
unfolding outcome_within
returns-in-Asked c = rw (sym c.instruction-outcome.ensures ∙ c.in-Asked.is)
    c.answered_once.ensures

pub returns-in-Done : goal.returns-in-Done
unfolding outcome_within
returns-in-Done c = rw (sym c.instruction-outcome.ensures ∙ c.in-Done.is) refl
