use mathlib.Core.Path.{refl, sym, ◌∙◌}
use native.Mathlib.Omega.{arith}
use Rattle.page_sums.specs.PageSums.{SixteenBits}
use Rattle.page_sums.proofs.Sums.{sums_kept}
use Rattle.r6501q_span_work.specs.Work.{continued_by, committed_by}
use Rattle.r6501q_span_work.proofs.continue_work.Goals as goal

pub returns-then-ends_span : goal.returns-then-ends_span
unfolding continued_by committed_by
returns-then-ends_span c =
    let at = c.args in
    let words : SixteenBits at.sums.now =
    λ p. omega (arith, c.type_inv.sums p) in
    let w = c.pushes_of-writes.ensures in
    let e = sym c.ends_span.ensures ∙ c.if-ends_span.true in record {
      value = rw (← w, e) c.none_waiting.ensures;
      memory_after = rw (← w, e) refl;
      sums_after = sums_kept 0
          at.sums.now at.memory.now words;
    }

pub returns : goal.returns
unfolding continued_by committed_by
returns c =
    let w = c.pushes_of-writes.ensures in
    let e = sym
    c.ends_span.ensures
    ∙ c.if-ends_span.false in record {
      value = rw (← w, e, c.next_work.ensures, c.waiting_of.ensures) refl;
      memory_after = rw (← w, e)
          c.commit.ensures.memory_after;
      sums_after = c.commit.ensures.sums_after;
    }
