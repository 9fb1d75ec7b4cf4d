use Rattle.cpu.proofs.work.next_work.Goals as goal

pub returns : goal.returns
returns c = rw (← c.saturating_sub.ensures)
