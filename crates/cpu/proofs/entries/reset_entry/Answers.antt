use mathlib.Core.Path.{refl}
use Rattle.cpu.specs.EntriesInCode.{reset_entry}
use Rattle.cpu.proofs.entries.reset_entry.Goals as goal

pub returns : goal.returns
unfolding reset_entry
returns c = rw (
  c.with_pc-entered.ensures,
  c.vector.ensures,
  c.with_status-masked.ensures,
  c.with_i.ensures,
) refl
