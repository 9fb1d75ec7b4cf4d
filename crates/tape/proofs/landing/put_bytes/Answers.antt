use Rattle.tape.proofs.MemoryLaws.{put_first, put_on, put_end}
use Rattle.memory.specs.Memory.{register_end}
use Rattle.page_sums.specs.PageSums.{SixteenBits}
use Rattle.page_sums.proofs.Sums.{sums_kept, sums_then}
use Prim.Native.Nat.{◌-◌}
use mathlib.Core.Path.{refl, sym, ◌∙◌}
use native.Mathlib.Omega.{arith}
use Rattle.tape.proofs.landing.put_bytes.Goals as goal

pub loop-k-init : goal.loop-k-init
loop-k-init c =
    let at = c.args in
    let low = c.dropped-k.ensures in
    let words : SixteenBits at.sums.now = λ p. omega (arith, c.type_inv.sums p) in (
      refl,
      omega (arith, low),
      rw low (put_first (register_end - at.address) at.digits.now at.part.now),
      sums_kept at.address at.sums.now at.part.now words,
    )

pub loop-k-preserved : goal.loop-k-preserved
loop-k-preserved c =
    let at = c.args in
    let loop = c.loop-k in
    let test = c.loop-k-test.true in
    let low = register_end - at.address in (
      c.commit_byte.auto.part ∙ loop.invariant.0,
      omega (arith, loop.invariant.1),
      rw (c.commit_byte.ensures.part_after, c.byte.ensures)
          (sym (put_on low at.digits.now loop.k loop.part loop.invariant.1 test) ∙ loop.invariant.2),
      sums_then at.address at.sums.now at.part.now loop.part c.commit_byte.new.part loop.invariant.3
          c.commit_byte.ensures.sums_after,
    )

pub returns : goal.returns
returns c =
    let at = c.args in
    let loop = c.loop-k in record {
      part_after = sym (put_end (register_end - at.address) at.digits.now loop.k loop.part c.loop-k-test.false)
          ∙ loop.invariant.2;
      sums_after = loop.invariant.3;
    }
