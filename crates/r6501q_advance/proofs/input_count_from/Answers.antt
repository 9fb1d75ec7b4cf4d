use Rattle.r6501q_advance.proofs.Worlds.{lent_part}
use Rattle.r6501q_advance.proofs.input_count_from.Goals as goal

pub returns : goal.returns
returns c = rw (c.input_count.ensures, lent_part _ _)
