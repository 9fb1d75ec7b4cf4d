use Rattle.std.proofs.lemmas.Iterator.{empty_from_Zip}
use Rattle.record_text.proofs.Laws.{listing_on, listed}
use Rattle.record_text.proofs.put_records.Goals as goal

pub loop-clock-preserved : goal.loop-clock-preserved
loop-clock-preserved c =
    let steps = c.in-Some.ensures.steps in
    listing_on c.args.times.now c.args.words.now c.args.at c.args.text.now c.loop-clock.place c.put_line-place.result
    c.loop-clock.text c.put_line-place.new.text _ _ c.loop-clock.invariant steps.0 steps.1 c.put_line-place.ensures

pub returns : goal.returns
returns c =
    let before = c.loop-clock.invariant in
    let spent = empty_from_Zip _ c.next.new.self _ c.in-None.is c.next.ensures.steps before.same in
    listed c.args.times.now c.args.words.now c.args.at c.args.text.now c.loop-clock.place c.loop-clock.text spent.0 before
