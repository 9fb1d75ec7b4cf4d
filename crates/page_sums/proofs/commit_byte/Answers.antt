use Rattle.page_sums.proofs.Sums.{byte_summed}
use Rattle.page_sums.specs.PageSums.{page_of, sum_changed, sum_at, SixteenBits}
use mathlib.Core.Path.{◌≡◌, refl, ◌∙◌}
use Prim.Native.Nat.{◌+◌}
use lib.ListN.{get_or, set}
use native.Mathlib.Omega.{arith}
use Rattle.page_sums.proofs.commit_byte.Goals as goal

pub returns : goal.returns
returns c =
    let at = c.args in
    let sums = at.sums.now in
    let page = page_of (at.address + at.k) in
    let words : SixteenBits sums =
    λ p. omega (arith, c.slice_known-2-1.given p) in
    let put : c.change_sum.new.sums
    ≡ set sums page (sum_changed (sum_at sums page) (get_or at.part.now at.k 0) at.value) =
    c.change_sum.ensures in record {
      part_after = refl;
      sums_after = put ∙ byte_summed at.address at.k at.value sums at.part.now words c.requires.0;
    }
