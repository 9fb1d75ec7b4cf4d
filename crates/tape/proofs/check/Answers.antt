use mathlib.Core.Path.{sym, ap, ◌∙◌}
use native.Mathlib.Omega.{arith}
use Rattle.tape.specs.Tapes.{load_result}
use Rattle.tape.proofs.TapeLaws.{check_end, check_skip, check_fault, check_last, check_on}
use Rattle.tape.proofs.check.Goals as goal
use Rattle.tape.proofs.check.Goals.{then-tape-place-eq-MARK+in_default+else-count-eq0, else-tape-place-eq-MARK}

pub returns-in-Some : goal.returns-in-Some
returns-in-Some c =
    let loop = c.loop-place in
    sym (check_fault c.args.tape.now loop.place c.loop-place-test.true c.if-tape-place-eq-MARK.true loop.seen
    c.in-Some.fault (rw c.in-Some.is at c.fault_of.ensures))
    ∙ loop.invariant.1

pub returns-then-count-eq0 : goal.returns-then-count-eq0
returns-then-count-eq0 c =
    let loop = c.loop-place in
    sym (check_last c.args.tape.now loop.place c.loop-place-test.true c.if-tape-place-eq-MARK.true loop.seen
    c.count.result c.in_default.ensures c.count.ensures _ c.if-count-eq0.true c.ended.ensures)
    ∙ loop.invariant.1

pub loop-place-preserved : goal.loop-place-preserved
loop-place-preserved c =
    let loop = c.loop-place in
    let test = c.loop-place-test.true in
    elim c.if-tape-place-eq-MARK.branch [
      | then-tape-place-eq-MARK+in_default+else-count-eq0 w ↦ (
        rw w.seen-is (omega (arith, loop.invariant.0)),
        rw w.seen-is
            (sym (check_on c.args.tape.now loop.place test w.if-tape-place-eq-MARK.true loop.seen w.count.result
            w.in_default.ensures w.count.ensures w.if-count-eq0.false)
            ∙ loop.invariant.1),
      )
      | else-tape-place-eq-MARK w ↦ (
        rw w.seen-is (omega (arith, loop.invariant.0)),
        rw w.seen-is
            (sym (check_skip c.args.tape.now loop.place test w.if-tape-place-eq-MARK.false loop.seen)
            ∙ loop.invariant.1),
      )
    ]

pub returns : goal.returns
returns c =
    let loop = c.loop-place in
    let test = c.loop-place-test.false in
    ap (load_result 10) (omega (arith, loop.auto.place-end))
    ∙ sym (check_end c.args.tape.now loop.place loop.seen test)
    ∙ loop.invariant.1
