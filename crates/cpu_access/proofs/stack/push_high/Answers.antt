use Rattle.cpu_access.proofs.stack.push_high.Goals as goal

pub returns : goal.returns
returns c = rw (← c.high_byte.ensures, ← c.push.ensures)
