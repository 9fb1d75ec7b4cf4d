use Rattle.cpu_modes.proofs.at_zero_page_indexed.Goals as goal

pub returns : goal.returns
returns c = rw (← c.zero_page_address-z.ensures, ← c.place_at.ensures)
