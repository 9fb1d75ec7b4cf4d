use Rattle.r6501q_span_reads.proofs.known.known_entry.Goals as goal

pub known_on_zero_page-requires : goal.known_on_zero_page-requires
known_on_zero_page-requires c = (c.requires, c.in-ZeroPage.is)

pub known_on_bit-requires : goal.known_on_bit-requires
known_on_bit-requires c = (c.requires, c.in-ZeroPageRelative.is)
