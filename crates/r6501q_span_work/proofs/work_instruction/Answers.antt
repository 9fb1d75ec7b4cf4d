use lib.Dec.{leb}
use mathlib.Core.Bool.{true}
use Prim.Native.Nat.{◌-◌}
use mathlib.Core.Path.{◌≡◌, refl, subst}
use native.Mathlib.Omega.{arith}
use borrow.Author.Tests.{le-leb, lt-leb}
use Rattle.page_sums.specs.PageSums.{SixteenBits}
use Rattle.page_sums.proofs.Sums.{sums_kept}
use Rattle.r6501q_span_reads.specs.Known.{Knows}
use Rattle.r6501q_span_work.specs.Work.{work_after, memory_after}
use Rattle.r6501q_span_work.proofs.Ends.{nothing_pushed}
use Rattle.r6501q_span_work.proofs.work_instruction.Goals as goal

pub returns-then-span-w : goal.returns-then-span-w
unfolding work_after memory_after
returns-then-span-w c =
    let at = c.args in
    let words : SixteenBits at.sums.now = λ p. omega (
      arith,
      c.type_inv.sums p,
    ) in
    let e : leb (at.span.0 - at.w.gone.0) at.w.wait ≡ true = le-leb _ _ c.if-span-w.true in record {
      value = rw e c.none_waiting.ensures;
      memory_after = rw e refl;
      sums_after = sums_kept 0 at.sums.now
          at.memory.now words;
    }

pub begin_next-requires : goal.begin_next-requires
begin_next-requires c =
    let room = c.requires in
    let inside = c.if-span-w.false in
    (omega (arith, room.gone, inside), omega (arith, room.gone, room.leaps, inside))

pub returns-in-Some : goal.returns-in-Some
unfolding work_after memory_after
returns-in-Some c =
    let at = c.args in
    let words : SixteenBits at.sums.now = λ p. omega (
      arith,
      c.type_inv.sums p,
    ) in
    let e = lt-leb _ _ c.if-span-w.false in
    let known = subst (Knows at.s at.w.registers at.memory.now) c.in-Some.is c.known_outcome.ensures in
    let same = nothing_pushed at.halt at.w at.memory.now c.in-Some.worked known.1 in record {
      value = rw (e, known.0, same.0) c.begin_next.ensures;
      memory_after = rw (e, known.0, same.1) refl;
      sums_after =
          sums_kept 0 at.sums.now at.memory.now words;
    }

pub work_outcome-requires : goal.work_outcome-requires
work_outcome-requires c =
    let room = c.requires in
    let inside = c.if-span-w.false in
    (omega (arith, room.gone, inside), omega (arith, room.gone, room.leaps, inside))

pub returns-in-None : goal.returns-in-None
unfolding work_after memory_after
returns-in-None c =
    let e = lt-leb _ _ c.if-span-w.false in record {
      value = rw e c.work_outcome.ensures.value;
      memory_after = rw e c.work_outcome.ensures.memory_after;
      sums_after
          = c.work_outcome.ensures.sums_after;
    }
