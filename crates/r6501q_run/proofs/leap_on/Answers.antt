use mathlib.Core.Path.{refl, sym, ◌∙◌}
use Prim.Native.Nat.{◌<◌}
use native.Mathlib.Omega.{arith}
use Rattle.page_sums.proofs.Sums.{sixteen_after}
use Rattle.r6501q_advance.proofs.Worlds.{summed_kept, still_lent_kept, summed_then}
use Rattle.r6501q_leap.proofs.Runs.{goes_some, goes_unstopped}
use Rattle.r6501q_run.proofs.Rests.{RunSoFar, run_so_far_begins, leapt, leapt_fewer, codes_read}
use Rattle.r6501q_run.proofs.Rests.{handed_on, spanned, ended_run}
use Rattle.r6501q_run.proofs.leap_on.Goals as goal
use Rattle.r6501q_run.proofs.leap_on.Goals.{After-leap_once-at}

pub loop-halt-init : goal.loop-halt-init
loop-halt-init c = record {
  run = run_so_far_begins _ _ _ _ _ _ _ c.requires.leaping c.requires.left_bound;
  summed = summed_kept c.args.memory.now;
  outputs = (still_lent_kept c.args.lists.now).outputs;
}

pub leap_once-at-requires : goal.leap_once-at-requires
leap_once-at-requires c =
    let loop = c.loop-halt in
    let on =
    sym c.goes_on.ensures
    ∙ c.loop-halt-test.true in record {
      leaping = loop.invariant.run.leaping;
      left_nonzero = (goes_some loop.at on, goes_unstopped loop.at on);
      left_bound = loop.invariant.run.bound;
    }

-- after the leap, the lists as they were
abbrev Leapt : After-leap_once-at → Type 0
Leapt c =
    let at = c.args in
    let given = at.lists.now in
    let done = c.leap_once-at in
    RunSoFar at.halt at.start at.memory.now.bytes.now given.inputclocks.now given.inputcodes.now
    given.outputclocks.now given.outputwords.now
    done.new.memory.bytes.now done.new.lists.outputclocks.now done.new.lists.outputwords.now done.result
    c.loop-halt.lists.inputclocks.now
    c.loop-halt.lists.inputcodes.now

went : (c : After-leap_once-at) → Leapt c × (c.leap_once-at.result.left.0 < c.loop-halt.at.left.0)
went c =
    let kept = c.loop-halt.invariant.run in
    let done = c.leap_once-at in
    let world = rw (done.ensures.still_lent.inputclocks, done.ensures.still_lent.inputcodes) at done.ensures.world in
    let on = sym c.goes_on.ensures ∙ c.loop-halt-test.true in (
      leapt _ _ _ _ _ _ _ kept done.result on world done.ensures.left_value done.ensures.leaps_value,
      leapt_fewer _ _ _ _ _ _ _ kept done.result on world done.ensures.left_value done.ensures.leaps_value,
    )

pub offset_bounds-lists-from : goal.offset_bounds-lists-from
offset_bounds-lists-from c =
    let kept = (went (goal.at.offset_bounds-lists-from c).After-leap_once-at).0 in
    omega (arith, kept.leaping.read, kept.within)

pub slice_bounds-lists-count : goal.slice_bounds-lists-count
slice_bounds-lists-count c =
    rw c.leap_once-at.ensures.still_lent.inputclocks
    (went (goal.at.slice_bounds-lists-count c).After-leap_once-at).0.leaping.read

pub slice_bounds-lists-start : goal.slice_bounds-lists-start
slice_bounds-lists-start c =
    rw c.leap_once-at.ensures.still_lent.inputclocks
    (went (goal.at.slice_bounds-lists-start c).After-leap_once-at).0.leaping.read

pub slice_bounds-lists-count-in-loop-halt : goal.slice_bounds-lists-count-in-loop-halt
slice_bounds-lists-count-in-loop-halt c =
    rw c.leap_once-at.ensures.still_lent.inputcodes
    (codes_read _ _ _ _ _ _ _ (went (goal.at.slice_bounds-lists-count-in-loop-halt c).After-leap_once-at).0)

pub slice_bounds-lists-start-in-loop-halt : goal.slice_bounds-lists-start-in-loop-halt
slice_bounds-lists-start-in-loop-halt c =
    rw c.leap_once-at.ensures.still_lent.inputcodes
    (codes_read _ _ _ _ _ _ _ (went (goal.at.slice_bounds-lists-start-in-loop-halt c).After-leap_once-at).0)

pub leap_span-at-requires : goal.leap_span-at-requires
leap_span-at-requires c =
    let rest = handed_on _ _ _ _ _ _ _ (went (goal.at.leap_span-at-requires c).After-leap_once-at).0 in record {
      left_bound = (rest.leaping.clock, rest.bound);
      read_in_bounds = rw c.leap_once-at.ensures.still_lent.inputclocks rest.leaping.read;
    }

pub invariant_of-memory : goal.invariant_of-memory
invariant_of-memory c =
    let before = c.leap_once-at.new.memory in record {
      sixteen_bits = rw c.leap_span-at.ensures.sums_after
          (sixteen_after 0 before.sums.now before.bytes.now c.leap_span-at.new.memory);
    }

pub loop-halt-smaller : goal.loop-halt-smaller
loop-halt-smaller c =
    let leap = went (goal.at.loop-halt-smaller c).After-leap_once-at in
    omega (arith, c.leap_span-at.ensures.spanned.left, leap.1)

pub loop-halt-preserved : goal.loop-halt-preserved
loop-halt-preserved c =
    let kept = c.loop-halt.invariant in
    let done = c.leap_once-at.ensures in
    let leap = went (goal.at.loop-halt-preserved c).After-leap_once-at in
    let rest = spanned _ _ _ _ _ _ _ (handed_on _ _ _ _ _ _ _ leap.0) in record {
      run = rw (done.still_lent.inputclocks, done.still_lent.inputcodes)
          (rest (rw done.still_lent.inputclocks at c.leap_span-at.ensures.spanned));
      summed = summed_then _ _ _ (summed_then _ _ _ kept.summed done.summed) (record {
        bytes = refl;
        sums = refl;
        sums_after = c.leap_span-at.ensures.sums_after;
      });
      outputs = record {
        outputclocks = done.still_lent.outputs.outputclocks ∙ kept.outputs.outputclocks;
        outputwords = done.still_lent.outputs.outputwords ∙ kept.outputs.outputwords;
      };
    }

pub overflow_sub-read : goal.overflow_sub-read
overflow_sub-read c = c.loop-halt.invariant.run.within

pub overflow_add-read : goal.overflow_add-read
overflow_add-read c =
    let kept = c.loop-halt.invariant.run in
    omega (arith, kept.within, kept.leaping.read)

pub returns-clause-run : goal.returns-clause-run
returns-clause-run c =
    let over = sym c.goes_on.ensures ∙ c.loop-halt-test.false in
    ended_run _ _ _ _ _ _ _ c.loop-halt.invariant.run over
