use mathlib.Core.Path.{refl, ◌∙◌}
use native.Mathlib.Omega.{arith}
use Rattle.page_sums.proofs.Sums.{sums_kept, sums_then}
use Rattle.r6501q_fast.specs.Instructions.{none, more}
use Rattle.r6501q_fast.proofs.Instructions.{starts_within, done, left, instructed_within, instructed_less}
use Rattle.r6501q_fast.proofs.Instructions.{shared_most, shared_two}
use Rattle.r6501q_fast.proofs.run_opcodes.Goals as goal

pub returns-then-memory-ne-MEMORY_LENGTH-clause-by_instructions :
    goal.returns-then-memory-ne-MEMORY_LENGTH-clause-by_instructions
returns-then-memory-ne-MEMORY_LENGTH-clause-by_instructions c = none

pub loop-w-init : goal.loop-w-init
loop-w-init c = record {
  within = c.requires.within_span;
  ran = none;
  summed = sums_kept 0 _ _ (λ k. omega (arith, c.type_inv.sums k));
  kept = refl;
}

pub overflow_add-shared : goal.overflow_add-shared
overflow_add-shared c =
    let loop = c.loop-w in
    let most = shared_most _ _ _ _ _ loop.invariant.ran in
    let two = shared_two c.args.ticking c.next_start.result c.in-Some.next.gone.0 in
    omega (arith, c.shared_by-shared.ensures, two, most, loop.invariant.within.gone, c.requires.span_bound.0)

pub loop-w-smaller : goal.loop-w-smaller
loop-w-smaller c =
    instructed_less (starts_within c.loop-w.w c.args.span.0 c.loop-w-test.true)
    (done (rw c.in-Some.is at c.tried.ensures.tries))

pub loop-w-preserved : goal.loop-w-preserved
loop-w-preserved c =
    let at = c.args in
    let loop = c.loop-w in
    let step = done (rw c.in-Some.is at c.tried.ensures.tries) in record {
      within = instructed_within loop.invariant.within step;
      ran = rw (c.shared_by-shared.ensures, c.next_start.ensures) (more loop.invariant.ran step);
      summed = sums_then 0 at.sums.now at.memory.now loop.memory _ loop.invariant.summed c.tried.ensures.sums_after;
      kept = c.tried.auto.memory ∙ loop.invariant.kept;
    }

pub returns-in_default-clause-by_instructions : goal.returns-in_default-clause-by_instructions
returns-in_default-clause-by_instructions c =
    rw (left (rw c.in_default.is at c.tried.ensures.tries)) c.loop-w.invariant.ran

pub returns-in_default-clause-sums_after : goal.returns-in_default-clause-sums_after
returns-in_default-clause-sums_after c =
    let at = c.args in
    let loop = c.loop-w in
    sums_then 0 at.sums.now at.memory.now loop.memory _ loop.invariant.summed c.tried.ensures.sums_after
