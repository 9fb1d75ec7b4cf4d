use Rattle.r6501q_registers.proofs.write.write_data.Goals as goal

pub returns : goal.returns
returns c = rw (
  ← c.with_bit.ensures,
  ← c.with_bit-waiting.ensures,
  ← c.with_bit-status.ensures,
)
