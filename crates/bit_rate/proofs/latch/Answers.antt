use mathlib.Core.Path.{refl, sym, ◌∙◌}
use native.Mathlib.Omega.{arith}
use Rattle.bit_rate.specs.BitRate.{latch_for}
use Rattle.bit_rate.proofs.Laws.{within, most_positive, fewest_positive, latch_fits, latch_beyond, latch_slow}
use Rattle.bit_rate.proofs.Laws.{most_bounded, least_bounded, slow_bounded}
use Rattle.bit_rate.proofs.latch.Goals as goal

pub returns-then-out_of_limits : goal.returns-then-out_of_limits
unfolding latch_for
returns-then-out_of_limits c = rw (sym c.out_of_limits.ensures ∙ c.if-out_of_limits.true) refl

pub overflow_mul-fastest : goal.overflow_mul-fastest
overflow_mul-fastest c =
    let inside = within _ _ _ (sym c.out_of_limits.ensures ∙ c.if-out_of_limits.false) in
    omega (arith, most_bounded _ _ _ inside)

pub overflow_sub-slowest : goal.overflow_sub-slowest
overflow_sub-slowest c =
    let inside = within _ _ _ (sym c.out_of_limits.ensures ∙ c.if-out_of_limits.false) in
    inside.most_tolerated

pub overflow_mul-slowest : goal.overflow_mul-slowest
overflow_mul-slowest c =
    let inside = within _ _ _ (sym c.out_of_limits.ensures ∙ c.if-out_of_limits.false) in
    omega (arith, least_bounded _ _ _ inside)

pub overflow_add-clocks : goal.overflow_add-clocks
overflow_add-clocks c =
    let inside = within _ _ _ (sym c.out_of_limits.ensures ∙ c.if-out_of_limits.false) in
    omega (arith, most_bounded _ _ _ inside, inside.most_clocked)

pub overflow_sub-clocks : goal.overflow_sub-clocks
overflow_sub-clocks c =
    let inside = within _ _ _ (sym c.out_of_limits.ensures ∙ c.if-out_of_limits.false) in
    omega (arith, most_positive _ _ _ inside)

pub nonzero_div-clocks : goal.nonzero_div-clocks
nonzero_div-clocks c =
    let inside = within _ _ _ (sym c.out_of_limits.ensures ∙ c.if-out_of_limits.false) in
    omega (arith, most_positive _ _ _ inside)

pub returns-then-clocks-gt-MOST_CLOCKS : goal.returns-then-clocks-gt-MOST_CLOCKS
unfolding latch_for
returns-then-clocks-gt-MOST_CLOCKS c =
    let allowed = sym c.out_of_limits.ensures ∙ c.if-out_of_limits.false in
    rw (allowed, latch_beyond _ _ _ (within _ _ _ allowed) c.if-clocks-gt-MOST_CLOCKS.true) refl

pub overflow_mul-slowest-2 : goal.overflow_mul-slowest-2
overflow_mul-slowest-2 c =
    let inside = within _ _ _ (sym c.out_of_limits.ensures ∙ c.if-out_of_limits.false) in
    omega (arith, slow_bounded _ _ _ inside c.if-clocks-gt-MOST_CLOCKS.false)

pub returns-then-rate-slowest : goal.returns-then-rate-slowest
unfolding latch_for
returns-then-rate-slowest c =
    let allowed = sym c.out_of_limits.ensures ∙ c.if-out_of_limits.false in
    rw (allowed, latch_slow _ _ _ (within _ _ _ allowed) c.if-rate-slowest.true) refl

pub overflow_sub-result : goal.overflow_sub-result
overflow_sub-result c =
    let inside =
    within _ _ _ (sym c.out_of_limits.ensures ∙ c.if-out_of_limits.false) in
    omega (arith, fewest_positive _ _ _ inside)

pub overflow_cast-result : goal.overflow_cast-result
overflow_cast-result c = omega (arith, c.if-clocks-gt-MOST_CLOCKS.false)

pub returns : goal.returns
unfolding latch_for
returns c =
    let allowed = sym c.out_of_limits.ensures ∙ c.if-out_of_limits.false in
    rw (allowed, latch_fits _ _ _ (within _ _ _ allowed) c.if-clocks-gt-MOST_CLOCKS.false c.if-rate-slowest.false) refl
