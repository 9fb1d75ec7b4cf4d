use Rattle.cpu_modes.proofs.at_indirect_indexed.Goals as goal

pub returns : goal.returns
returns c = rw (← c.zero_page_pointer-pointer.ensures, ← c.indexed_by.ensures)
