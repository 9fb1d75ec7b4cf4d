use Rattle.r6501q_span_reads.proofs.known.known_on_bit.Goals as goal

pub known_branch-requires : goal.known_branch-requires
known_branch-requires c = (c.requires, c.in-BitBranch.is)
