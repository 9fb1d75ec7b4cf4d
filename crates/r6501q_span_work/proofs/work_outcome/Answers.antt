use mathlib.Core.Path.{refl, sym, ◌∙◌}
use native.Mathlib.Omega.{arith}
use Rattle.page_sums.specs.PageSums.{SixteenBits}
use Rattle.page_sums.proofs.Sums.{sums_kept}
use Rattle.r6501q_span_work.proofs.work_outcome.Goals as goal

pub returns-in-Undefined : goal.returns-in-Undefined
returns-in-Undefined c =
    let at = c.args in
    let words : SixteenBits at.sums.now = λ p. omega (
      arith,
      c.type_inv.sums p,
    ) in
    let o = sym c.outcome_within-outcome.ensures ∙ c.in-Undefined.is in record {
      value = rw o c.none_waiting.ensures;
      memory_after = rw o refl;
      sums_after = sums_kept 0 at.sums.now
          at.memory.now words;
    }

pub returns-in-Asked : goal.returns-in-Asked
returns-in-Asked c =
    let at = c.args in
    let words : SixteenBits at.sums.now = λ p. omega (
      arith,
      c.type_inv.sums p,
    ) in
    let o = sym c.outcome_within-outcome.ensures ∙ c.in-Asked.is in record {
      value = rw o c.none_waiting-in-Asked.ensures;
      memory_after = rw o refl;
      sums_after = sums_kept 0 at.sums.now
          at.memory.now words;
    }

pub returns-in-Done : goal.returns-in-Done
returns-in-Done c =
    let o = sym c.outcome_within-outcome.ensures ∙ c.in-Done.is in record {
      value = rw o c.continue_work.ensures.value;
      memory_after = rw o c.continue_work.ensures.memory_after;
      sums_after = c.continue_work.ensures.sums_after;
    }
