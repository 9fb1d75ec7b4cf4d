use Rattle.std.proofs.Common.{arith}
use Rattle.test_text.proofs.Laws.{mark_within}
use Rattle.test_instructions.proofs.line_end.Goals as goal

pub returns : goal.returns
returns c = omega (
  arith,
  mark_within 10 c.args.text.now c.args.from c.requires,
)
