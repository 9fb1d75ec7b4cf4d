use native.Mathlib.Omega.{arith}
use Rattle.page_sums.specs.PageSums.{SixteenBits}
use Rattle.page_sums.proofs.Sums.{sums_kept}
use Rattle.r6501q_span_leaps.proofs.Spanned.{no_span}
use Rattle.r6501q_span_leaps.proofs.leap_span.Goals as goal

pub returns-then-span-eq0 : goal.returns-then-span-eq0
returns-then-span-eq0 c =
    let at = c.args in
    let words : SixteenBits at.sums.now =
    λ p. omega (arith, c.type_inv.sums p) in record {
      spanned = no_span _ _ _ _;
      sums_after = sums_kept 0 at.sums.now at.memory.now words;
    }

pub leap_within-requires : goal.leap_within-requires
leap_within-requires c =
    let some = c.if-span-eq0.false in record {
      left_bound = c.requires.left_bound;
      span_begun = c.span_from-span.ensures (omega (arith, some));
    }
