use mathlib.Core.Path.{refl}
use lib.Seq.{set_out}
use native.Mathlib.Omega.{arith}
use Rattle.page_sums.specs.PageSums.{SixteenBits}
use Rattle.page_sums.proofs.Sums.{sums_kept}
use Rattle.memory_writes.specs.Commit.{put_write}
use Rattle.memory_writes.proofs.put_write.Goals as goal

pub returns-then-at-memory : goal.returns-then-at-memory
unfolding put_write
returns-then-at-memory c = record {
  memory_after = rw (
    ← c.is_register-here.ensures,
    c.if-here.true,
  ) c.commit_byte.ensures.part_after;
  sums_after = c.commit_byte.ensures.sums_after;
}

pub returns-else-at-memory : goal.returns-else-at-memory
unfolding put_write
returns-else-at-memory c =
    let at = c.args in
    let words : SixteenBits at.sums.now =
    λ p. omega (arith, c.type_inv.sums p) in record {
      memory_after = rw (← c.is_register-here.ensures, c.if-here.true, set_out _ _ _ c.if-at-memory.false) refl;
      sums_after = sums_kept 0 at.sums.now at.memory.now words;
    }

pub returns-else-here : goal.returns-else-here
unfolding put_write
returns-else-here c =
    let at = c.args in
    let words : SixteenBits at.sums.now = λ p. omega (arith, c.type_inv.sums p) in record {
      memory_after = rw (← c.is_register-here.ensures, c.if-here.false) refl;
      sums_after = sums_kept 0 at.sums.now
          at.memory.now words;
    }
