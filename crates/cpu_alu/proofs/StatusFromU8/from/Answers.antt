use Rattle.cpu_alu.specs.Status.{unpacked}
use Rattle.cpu_alu.proofs.StatusFromU8.from.Goals as goal

pub returns : goal.returns
unfolding unpacked
returns c = rw (
  ← c.bit8.ensures,
  ← c.bit8-2.ensures,
  ← c.bit8-3.ensures,
  ← c.bit8-4.ensures,
  ← c.bit8-5.ensures,
  ← c.bit8-6.ensures,
)
