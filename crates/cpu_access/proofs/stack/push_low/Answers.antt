use Rattle.cpu_access.proofs.stack.push_low.Goals as goal

pub returns : goal.returns
returns c = rw (← c.down.ensures, ← c.low_byte.ensures, ← c.push.ensures)
