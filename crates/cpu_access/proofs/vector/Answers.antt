use Rattle.cpu_access.specs.Bus.{vector_of}
use Rattle.cpu_access.proofs.vector.Goals as goal

pub returns : goal.returns
unfolding vector_of
returns c = rw (
  ← c.memory_byte-lower.ensures,
  ← c.next_address.ensures,
  ← c.memory_byte-upper.ensures,
  ← c.word16.ensures,
)
