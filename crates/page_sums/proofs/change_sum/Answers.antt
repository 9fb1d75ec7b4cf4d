use Rattle.page_sums.proofs.Sums.{taken_off}
use mathlib.Core.Path.{ap, sym}
use lib.ListN.{get_or, set}
use lib.Seq.{set_out}
use native.Mathlib.Omega.{arith}
use Rattle.page_sums.proofs.change_sum.Goals as goal

pub overflow_cast-sums : goal.overflow_cast-sums
overflow_cast-sums c = omega (arith, c.slice_known-1.given c.args.page)

pub overflow_add-sums : goal.overflow_add-sums
overflow_add-sums c = omega (arith, c.slice_known-1.given c.args.page)

pub overflow_add-sums-then-page-sums : goal.overflow_add-sums-then-page-sums
overflow_add-sums-then-page-sums c = omega (arith, c.slice_known-1.given c.args.page)

pub returns-then-page-sums : goal.returns-then-page-sums
returns-then-page-sums c =
    let at = c.args in
    ap (set at.sums.now at.page)
    (taken_off (get_or at.sums.now at.page 0) at.before at.after (omega arith))

pub returns-else-page-sums : goal.returns-else-page-sums
returns-else-page-sums c = sym (set_out _ _ _ c.if-page-sums.false)
