use Rattle.r6501q_cpu.proofs.next_state.Goals as goal

pub returns : goal.returns
returns c = rw (
  ← c.saturating_sub.ensures,
  ← c.waiting_of.ensures,
  ← c.cpu_of-cpu.ensures,
  ← c.pushes_of-writes.ensures,
  ← c.registers_after-peripherals.ensures,
)
