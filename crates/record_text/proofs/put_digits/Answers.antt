use lib.ListN.{length-set}
use Rattle.record_text.proofs.Laws.{spelling_on, spelled}
use Rattle.record_text.proofs.put_digits.Goals as goal

pub loop-left-preserved : goal.loop-left-preserved
loop-left-preserved c = (
  spelling_on c.args.base c.args.count c.args.n c.args.at c.args.text.now c.loop-left.left c.loop-left.rest
      c.digit.result c.loop-left.text c.loop-left-test.true c.loop-left.invariant.0 c.digit.ensures,
  simp length-set c.loop-left.invariant.1,
)

pub returns : goal.returns
returns c =
    spelled c.args.base c.args.count c.args.n c.args.at c.args.text.now c.loop-left.left c.loop-left.rest
    c.loop-left.text c.loop-left-test.false c.loop-left.invariant.0
