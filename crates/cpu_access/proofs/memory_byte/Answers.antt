use Rattle.cpu_access.specs.Bus.{memory_byte}
use Rattle.std.proofs.Common.{ℕ, rules}
use lib.ListN.{get_or-eq_default}
use Rattle.cpu_access.proofs.memory_byte.Goals as goal

pub returns-then-at-memory : goal.returns-then-at-memory
unfolding memory_byte
returns-then-at-memory c = search rules

pub returns : goal.returns
unfolding memory_byte
returns c = rw (get_or-eq_default {A = ℕ} _ 0 c.if-at-memory.false)
