use borrow.Author.Rules.{rules}
use Rattle.serial_format.proofs.Frames.{fold_right_lem}
use Rattle.serial_format.proofs.odd_ones.Goals as goal

pub returns : goal.returns
returns c = fold_right_lem c.args.x (search rules)
