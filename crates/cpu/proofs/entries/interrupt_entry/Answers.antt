use mathlib.Core.Path.{refl}
use Rattle.cpu.specs.EntriesInCode.{interrupt_entry}
use Rattle.cpu.proofs.entries.interrupt_entry.Goals as goal

pub returns : goal.returns
unfolding interrupt_entry
returns c = rw (c.interrupted.ensures, c.pushed.ensures) refl
