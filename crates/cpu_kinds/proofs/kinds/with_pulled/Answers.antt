use mathlib.Core.Path.{refl}
use Rattle.cpu_kinds.specs.Kinds.{with_pulled}
use Rattle.cpu_kinds.proofs.kinds.with_pulled.Goals as goal

pub returns-in-Pla : goal.returns-in-Pla
unfolding with_pulled
returns-in-Pla c = rw (c.load_a.ensures, c.in-Pla.is) refl

pub returns-in-Plp : goal.returns-in-Plp
unfolding with_pulled
returns-in-Plp c = rw (c.with_status.ensures, c.from.ensures, c.in-Plp.is) refl
