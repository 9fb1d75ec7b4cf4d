use Rattle.r6501q_registers.proofs.write.write_scsr.Goals as goal

pub returns : goal.returns
returns c = rw (
  ← c.bit8.ensures,
  ← c.with_bit-woken.ensures,
  ← c.bit8-2.ensures,
  ← c.with_bit-status.ensures,
)
