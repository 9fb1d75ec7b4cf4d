use mathlib.Core.Path.{refl, ◌∙◌}
use Prim.Native.Nat.{◌-◌}
use Rattle.test_text.proofs.Laws.{mark_here, mark_later, no_mark}
use Rattle.test_text.proofs.next_mark.Goals as goal

pub loop-place-init : goal.loop-place-init
loop-place-init c = refl

pub returns-then-text-place : goal.returns-then-text-place
returns-then-text-place c = mark_here c.args.mark c.args.text.now
    c.loop-place.place c.loop-place-test.true c.if-text-place.true
    ∙ c.loop-place.invariant

pub loop-place-preserved : goal.loop-place-preserved
loop-place-preserved c = mark_later c.args.mark c.args.text.now
    c.loop-place.place c.loop-place-test.true c.if-text-place.false
    ∙ c.loop-place.invariant

pub returns : goal.returns
returns c = no_mark c.args.mark c.args.text.now c.loop-place.place
    c.loop-place-test.false ∙ c.loop-place.invariant
