use Rattle.page_sums.proofs.Totals.{total_next, total_end}
use Rattle.page_sums.specs.PageSums.{total_of, total_call}
use mathlib.Core.Path.{◌≡◌}
use borrow.Author.Tests.{eq-eqb, ne_eqb}
use native.Mathlib.Omega.{arith}
use Rattle.page_sums.proofs.total.Goals as goal

pub returns-then-sums-ne-PAGE_COUNT : goal.returns-then-sums-ne-PAGE_COUNT
unfolding total_call
returns-then-sums-ne-PAGE_COUNT c = rw (ne_eqb _ _ c.if-sums-ne-PAGE_COUNT.true)

pub loop-sum-preserved : goal.loop-sum-preserved
loop-sum-preserved c =
    let word = c.type_inv.sums c.loop-sum.sum-index in
    (omega (arith, word), omega (arith, total_next c.args.sums.now c.loop-sum.sum-index c.loop-sum-test.true))

pub returns : goal.returns
unfolding total_call
returns c =
    let sums = c.args.sums.now in
    let all : c.loop-sum.total ≡ total_of sums = omega (arith, total_end sums c.loop-sum.sum-index c.loop-sum-test.false) in
    rw (all, eq-eqb _ _ c.if-sums-ne-PAGE_COUNT.false)
