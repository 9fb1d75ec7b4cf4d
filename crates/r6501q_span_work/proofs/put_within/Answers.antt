use mathlib.Core.Path.{refl, sym, ◌∙◌}
use lib.Dec.{ltb}
use native.Mathlib.Omega.{arith}
use borrow.Author.Tests.{ltb-true, leb-true}
use Rattle.bits.proofs.Cond.{and_left, and_right}
use Rattle.page_sums.specs.PageSums.{SixteenBits}
use Rattle.page_sums.proofs.Sums.{sums_kept}
use Rattle.r6501q_span_work.specs.Work.{work_put, memory_put}
use Rattle.r6501q_span_work.proofs.Ends.{puts_within_lem, puts_not, puts_later}
use Rattle.r6501q_span_work.proofs.put_within.Goals as goal

pub put_work-requires : goal.put_work-requires
put_work-requires c =
    let room = c.requires in
    let w = c.args.w in
    let within = c.if-within.true in
    let some = ltb-true 0 w.wait (and_left (ltb 0 w.wait) _ within) in
    let fits = leb-true w.wait _ (and_right (ltb 0 w.wait) _ within) in
    (omega (arith, room.gone, some, fits), omega (arith, room.gone, room.leaps, some, fits))

pub returns-then-not-ends_span : goal.returns-then-not-ends_span
unfolding work_put memory_put
returns-then-not-ends_span c =
    let at = c.args in
    let one = c.one_write-writes.ensures in
    let none = rw one at (sym c.ends_span.ensures ∙ c.if-not-ends_span.true) in
    let e = puts_within_lem at.halt at.span.0 at.w at.x
    c.if-within.true none in record {
      value = rw e c.put_work.ensures;
      memory_after = rw e (rw one at c.commit.ensures.memory_after);
      sums_after =
          c.commit.ensures.sums_after;
    }

pub returns-else-not-ends_span : goal.returns-else-not-ends_span
unfolding work_put memory_put
returns-else-not-ends_span c =
    let at = c.args in
    let words : SixteenBits at.sums.now =
    λ p. omega (arith, c.type_inv.sums p) in
    let one = c.one_write-writes.ensures in
    let ends = rw one at (sym c.ends_span.ensures ∙ c.if-not-ends_span.false) in
    let e = puts_not at.halt at.span.0 at.w at.x c.if-within.true ends in record {
      value = rw e refl;
      memory_after = rw e refl;
      sums_after = sums_kept 0 at.sums.now at.memory.now words;
    }

pub returns-else-within : goal.returns-else-within
unfolding work_put memory_put
returns-else-within c =
    let at = c.args in
    let words : SixteenBits at.sums.now =
    λ p. omega (arith, c.type_inv.sums p) in
    let e = puts_later at.halt at.span.0 at.w at.x c.if-within.false in record {
      value = rw e refl;
      memory_after = rw e refl;
      sums_after = sums_kept 0 at.sums.now at.memory.now words;
    }
