use mathlib.Core.Path.{refl}
use Rattle.r6501q_spans.specs.Spans.{only_cpu}
use Rattle.r6501q_spans.proofs.only_cpu.Goals as goal

pub returns : goal.returns
unfolding only_cpu
returns c = rw (
  c.from.ensures,
  c.pending.ensures,
  c.registers_of.ensures,
) refl
