use Rattle.tape.proofs.TapeLaws.{landed_all_end, landed_all_skip, landed_all_last, landed_all_on, data_fits}
use Rattle.page_sums.specs.PageSums.{SixteenBits}
use Rattle.page_sums.proofs.Sums.{sums_kept, sums_then}
use mathlib.Core.Path.{refl, sym, ◌∙◌}
use native.Mathlib.Omega.{arith}
use Rattle.tape.proofs.land_all.Goals as goal
use Rattle.tape.proofs.land_all.Goals.{then-tape-place-eq-MARK+else-count-eq0, else-tape-place-eq-MARK}

pub loop-place-init : goal.loop-place-init
loop-place-init c =
    let at = c.args in
    let words : SixteenBits at.sums.now = λ p. omega (arith, c.type_inv.sums p) in
    (refl, refl, sums_kept 0 at.sums.now at.memory.now words)

pub returns-then-count-eq0 : goal.returns-then-count-eq0
returns-then-count-eq0 c =
    let at = c.args in
    let loop = c.loop-place in
    let test = c.loop-place-test.true in
    let count = c.count in record {
      memory_after = sym (landed_all_last at.tape.now loop.place test c.if-tape-place-eq-MARK.true count.result
          count.ensures loop.memory c.if-count-eq0.true) ∙ loop.invariant.1;
      sums_after = loop.invariant.2;
    }

pub land-requires : goal.land-requires
land-requires c =
    let loop = c.loop-place in
    let address = c.address in
    let f = data_fits c.args.tape.now loop.place address.result c.record_data.result.now
    address.ensures c.record_data.ensures in
    (omega (arith, f, loop.invariant.0, c.requires), omega (arith, f, loop.invariant.0, c.requires))

pub loop-place-preserved : goal.loop-place-preserved
loop-place-preserved c =
    let at = c.args in
    let loop = c.loop-place in
    let test = c.loop-place-test.true in
    elim c.if-tape-place-eq-MARK.branch [
      | then-tape-place-eq-MARK+else-count-eq0 w ↦ (
        rw w.memory-is (w.land.auto.memory ∙ loop.invariant.0),
        rw w.memory-is
            (sym (landed_all_on at.tape.now loop.place test w.if-tape-place-eq-MARK.true w.count.result
            w.count.ensures loop.memory w.address.result w.record_data.result.now w.land.new.memory
            w.if-count-eq0.false w.address.ensures w.record_data.ensures w.land.ensures.memory_after)
            ∙ loop.invariant.1),
        rw (w.memory-is, w.sums-is) (sums_then 0 at.sums.now at.memory.now loop.memory w.land.new.memory
            loop.invariant.2 w.land.ensures.sums_after),
      )
      | else-tape-place-eq-MARK w ↦ (
        rw w.memory-is loop.invariant.0,
        rw w.memory-is
            (sym (landed_all_skip at.tape.now loop.place test w.if-tape-place-eq-MARK.false loop.memory)
            ∙ loop.invariant.1),
        rw (w.memory-is, w.sums-is) loop.invariant.2,
      )
    ]

pub returns : goal.returns
returns c =
    let at = c.args in
    let loop = c.loop-place in record {
      memory_after = sym (landed_all_end at.tape.now loop.place loop.memory c.loop-place-test.false)
          ∙ loop.invariant.1;
      sums_after = loop.invariant.2;
    }
