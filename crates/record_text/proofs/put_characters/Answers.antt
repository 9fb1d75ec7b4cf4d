use Rattle.std.proofs.Common.{arith}
use lib.ListN.{length-set}
use Rattle.record_text.proofs.Laws.{put_next}
use Rattle.record_text.proofs.put_characters.Goals as goal

pub loop-i-preserved : goal.loop-i-preserved
loop-i-preserved c = (
  rw c.loop-i.invariant.0 (put_next c.args.characters.now c.args.text.now c.args.at c.loop-i.i (omega arith)),
  omega arith,
  simp length-set c.loop-i.invariant.2,
)
