use mathlib.Core.Path.{sym, ◌∙◌}
use native.Mathlib.Omega.{arith}
use Rattle.std.proofs.lemmas.Grind.{common_steps}
use Rattle.std.proofs.lemmas.Iterator.{empty_from_Zip}
use Rattle.pin_lists.proofs.Steps.{behind_last, unequal, rest_next, rest_end}
use Rattle.pin_lists.proofs.pins_right.Goals as goal

pub returns-then-clocks-codes : goal.returns-then-clocks-codes
returns-then-clocks-codes c = unequal _ _ _ _ c.if-clocks-codes.true

pub loop-time-init : goal.loop-time-init
loop-time-init c =
    let zip = c.zip-time-items.ensures in
    rw (c.into_iter-time-iterator.ensures.into_iter_gives, zip.first, c.iter.ensures.rest, zip.second.0)
    (c.if-clocks-codes.false, behind_last c.args.lastpin c.args.clock c.args.clocks.now c.args.codes.now)

pub returns-then-not-entry_right : goal.returns-then-not-entry_right
returns-then-not-entry_right c =
    let at = c.in-Some.ensures.steps in
    let next = rest_next c.args.lastpin c.loop-time.last c.loop-time.pin _ _ _ _ at.0 at.1 in
    sym (rw (← c.entry_right.ensures, c.if-not-entry_right.true) at next) ∙ c.loop-time.invariant.1

pub loop-time-preserved : goal.loop-time-preserved
loop-time-preserved c =
    let at = c.in-Some.ensures.steps in
    let next = rest_next c.args.lastpin c.loop-time.last c.loop-time.pin _ _ _ _ at.0 at.1 in (
      grind (arith, common_steps, at.0, at.1, c.loop-time.invariant.0),
      sym (rw (← c.entry_right.ensures, c.if-not-entry_right.false) at next) ∙ c.loop-time.invariant.1,
    )

pub returns : goal.returns
returns c =
    let spent = empty_from_Zip _ c.next.new.self _ c.in-None.is c.next.ensures.steps c.loop-time.invariant.0 in
    sym (rest_end c.args.lastpin c.loop-time.last c.loop-time.pin spent.0 spent.1) ∙ c.loop-time.invariant.1
