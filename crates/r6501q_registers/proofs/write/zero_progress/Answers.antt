use Rattle.r6501q_registers.proofs.write.zero_progress.Goals as goal

pub returns : goal.returns
returns c = rw (← c.with_sccr-transmitter.ensures, ← c.with_sccr-receiver.ensures)
