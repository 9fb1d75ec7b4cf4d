use mathlib.Core.Path.{refl}
use Rattle.cpu_kinds.specs.Kinds.{byte_to_store}
use Rattle.cpu_kinds.proofs.kinds.byte_to_store.Goals as goal

pub returns-in-Sta : goal.returns-in-Sta
unfolding byte_to_store
returns-in-Sta c = rw c.in-Sta.is refl

pub returns-in-Stx : goal.returns-in-Stx
unfolding byte_to_store
returns-in-Stx c = rw c.in-Stx.is refl

pub returns-in-Sty : goal.returns-in-Sty
unfolding byte_to_store
returns-in-Sty c = rw c.in-Sty.is refl
