use borrow.Author.Rules.{rules}
use Rattle.refusals.specs.Refusals.{last_clock}
use Rattle.refusals.proofs.Accepted.{clocks_left}
use Rattle.refusals.proofs.passes_last.Goals as goal

pub returns : goal.returns
returns c = clocks_left last_clock c.args.clock c.args.n (search rules)
