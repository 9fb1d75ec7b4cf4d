use Rattle.r6501q_advance.proofs.Worlds.{lent_part}
use Rattle.r6501q_leap.proofs.gap_from.Goals as goal

pub returns : goal.returns
returns c = rw (c.gap.ensures, lent_part _ _)
