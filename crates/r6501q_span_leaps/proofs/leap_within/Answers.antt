use mathlib.Core.Path.{ap, ◌∙◌}
use lib.ListN.{length}
use Prim.Native.Nat.{◌-◌}
use native.Mathlib.Omega.{arith}
use Rattle.page_sums.specs.PageSums.{sums_after, SixteenBits}
use Rattle.page_sums.proofs.Sums.{sums_kept, sums_then, sums_length}
use Rattle.r6501q_unseen.proofs.Clocks.{unseen_fewer}
use Rattle.r6501q_span_leaps.proofs.Spanned.{fewer_left}
use Rattle.r6501q_span_leaps.proofs.Ticked.{ticks_of_lem, some_period, within_begins, within_steps}
use Rattle.r6501q_span_leaps.proofs.Ticked.{within_ends}
use Rattle.r6501q_span_leaps.proofs.Ticked.{ending}
use Rattle.r6501q_span_leaps.proofs.leap_within.Goals as goal

pub loop-on-init : goal.loop-on-init
loop-on-init c =
    let at = c.args in
    let words : SixteenBits at.sums.now =
    λ p. omega (arith, c.type_inv.sums p) in (
      rw c.begin_work-v.ensures
          (within_begins at.halt at.at at.inputclocks.now at.span.0 at.memory.now
          c.requires.span_begun),
      sums_kept 0 at.sums.now at.memory.now words,
    )

pub steps_on-stepped-requires : goal.steps_on-stepped-requires
steps_on-stepped-requires c =
    let i = c.loop-on.invariant.0 in
    let ticking = c.ticking_of-ticking in record {
      within_span = i.room;
      span_bound = (i.begun.short, some_period _ _ ticking.result ticking.ensures);
    }

pub overflow_add-shared : goal.overflow_add-shared
overflow_add-shared c =
    let at = c.args in
    let ticking = c.ticking_of-ticking in
    let next =
    within_steps at.halt at.at at.inputclocks.now at.span.0 at.memory.now ticking.result
    (ticks_of_lem at.span.0 _ _ ticking.result ticking.ensures c.loop-on.invariant.0.begun.short)
    c.loop-on.memory _ c.loop-on.v c.loop-on.shared _ c.loop-on.invariant.0 c.steps_on-stepped.ensures.steps_on in
    omega (arith, next.shares, next.room.gone, c.loop-on.invariant.0.begun.short)

pub loop-on-smaller : goal.loop-on-smaller
loop-on-smaller c =
    let at = c.args in
    let ticking = c.ticking_of-ticking in
    let next =
    within_steps at.halt at.at at.inputclocks.now at.span.0 at.memory.now ticking.result
    (ticks_of_lem at.span.0 _ _ ticking.result ticking.ensures c.loop-on.invariant.0.begun.short)
    c.loop-on.memory _ c.loop-on.v c.loop-on.shared _ c.loop-on.invariant.0 c.steps_on-stepped.ensures.steps_on in
    rw c.loop-on-test.true
    (fewer_left at.span.0 c.loop-on.v.work.gone.0 _ next.room.gone)

pub loop-on-preserved : goal.loop-on-preserved
loop-on-preserved c =
    let at = c.args in
    let ticking = c.ticking_of-ticking in
    let next =
    within_steps at.halt at.at at.inputclocks.now at.span.0 at.memory.now ticking.result
    (ticks_of_lem at.span.0 _ _ ticking.result ticking.ensures c.loop-on.invariant.0.begun.short)
    c.loop-on.memory _ c.loop-on.v c.loop-on.shared _ c.loop-on.invariant.0 c.steps_on-stepped.ensures.steps_on in (
      next,
      sums_then 0 at.sums.now at.memory.now c.loop-on.memory c.steps_on-stepped.new.memory c.loop-on.invariant.1
          c.steps_on-stepped.ensures.sums_after,
    )

pub spanned_to-requires : goal.spanned_to-requires
spanned_to-requires c =
    let i = c.loop-on.invariant.0 in
    ending _ _ _ _ _ _ _ _ i c.requires.left_bound.0 c.requires.left_bound.1
    (unseen_fewer _ c.args.span.0 _ _ i.room.gone i.begun.alone.unseen)

pub shape_of-memory : goal.shape_of-memory
shape_of-memory c = c.loop-on.invariant.0.kept

pub shape_of-sums : goal.shape_of-sums
shape_of-sums c =
    let at = c.args in
    ap length c.loop-on.invariant.1
    ∙ sums_length 0 at.sums.now at.memory.now c.loop-on.memory

pub returns : goal.returns
returns c =
    let loop = c.loop-on in record {
      spanned = rw c.spanned_to.ensures (within_ends _ _ _ _ _ _ _ _ loop.invariant.0);
      sums_after = loop.invariant.1;
    }
