use mathlib.Core.Path.{refl}
use Rattle.cpu_kinds.specs.Kinds.{byte_to_push}
use Rattle.cpu_kinds.proofs.kinds.byte_to_push.Goals as goal

pub returns-in-Pha : goal.returns-in-Pha
unfolding byte_to_push
returns-in-Pha c = rw c.in-Pha.is refl

pub returns-in-Php : goal.returns-in-Php
unfolding byte_to_push
returns-in-Php c = rw (c.pushed.ensures, c.in-Php.is) refl
