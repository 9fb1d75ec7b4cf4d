use mathlib.Core.Path.{refl}
use Rattle.cpu_kinds.specs.Kinds.{bit_branch_taken}
use Rattle.cpu_kinds.proofs.kinds.bit_branch_taken.Goals as goal

pub returns-in-Bbr : goal.returns-in-Bbr
unfolding bit_branch_taken
returns-in-Bbr c = rw (c.bit8.ensures, c.in-Bbr.is) refl

pub returns-in-Bbs : goal.returns-in-Bbs
unfolding bit_branch_taken
returns-in-Bbs c = rw (c.bit8-in-Bbs.ensures, c.in-Bbs.is) refl
