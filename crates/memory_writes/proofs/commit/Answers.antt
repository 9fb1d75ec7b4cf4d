use Rattle.std.proofs.Common.{◌≡◌, ℕ, false, true, refl, arith, ltb, le-ltb, lt-ltb}
use Rattle.page_sums.proofs.Sums.{sums_then, sums_kept}
use Rattle.page_sums.specs.PageSums.{SixteenBits}
use Rattle.memory_writes.specs.Commit.{put_write, committed}
use Rattle.memory_writes.proofs.commit.Goals as goal

pub returns-then-w-eq0 : goal.returns-then-w-eq0
unfolding committed put_write
returns-then-w-eq0 c =
    let at = c.args in
    let words : SixteenBits at.sums.now = λ p. omega (arith, c.type_inv.sums p) in record {
      memory_after = rw c.if-w-eq0.true refl;
      sums_after = sums_kept 0 at.sums.now at.memory.now words;
    }

pub returns-then-w-eq1 : goal.returns-then-w-eq1
unfolding committed put_write
returns-then-w-eq1 c = record {
  memory_after = rw c.if-w-eq1.true c.put_write.ensures.memory_after;
  sums_after = c.put_write.ensures.sums_after;
}

pub returns-then-w-eq2 : goal.returns-then-w-eq2
unfolding committed put_write
returns-then-w-eq2 c =
    let at = c.args in record {
      memory_after = rw (c.if-w-eq2.true, ← c.put_write.ensures.memory_after) c.put_write-2.ensures.memory_after;
      sums_after = sums_then 0 at.sums.now at.memory.now c.put_write.new.memory c.put_write-2.new.memory
          c.put_write.ensures.sums_after c.put_write-2.ensures.sums_after;
    }

pub returns : goal.returns
unfolding committed
returns c =
    let at = c.args in
    let sums = at.sums.now in
    let memory = at.memory.now in
    let count = at.w.count in record {
      memory_after = rw (
        lt-ltb 0 count (omega arith),
        lt-ltb 1 count (omega arith),
        lt-ltb 2 count (omega arith),
        c.put_write-3.ensures.memory_after,
        c.put_write-2.ensures.memory_after,
        c.put_write.ensures.memory_after,
      ) refl;
      sums_after = sums_then 0 sums memory c.put_write-2.new.memory c.put_write-3.new.memory
          (sums_then 0 sums memory c.put_write.new.memory c.put_write-2.new.memory c.put_write.ensures.sums_after
          c.put_write-2.ensures.sums_after)
          c.put_write-3.ensures.sums_after;
    }
