use Rattle.serial_format.proofs.parity_size.Goals as goal

pub returns : goal.returns
returns c = rw (← c.has_parity.ensures, ← c.one_where.ensures)
