use Rattle.r6501q_span_reads.proofs.known.known_on_zero_page.Goals as goal

pub known_read-requires : goal.known_read-requires
known_read-requires c = (c.requires, c.in-Read.is)

pub known_store-requires : goal.known_store-requires
known_store-requires c = (c.requires, c.in-Store.is)

pub known_change-requires : goal.known_change-requires
known_change-requires c = (c.requires, c.in-Modify.is)
