use mathlib.Core.Path.{refl}
use Rattle.r6501q_span_work.proofs.begin_next.Goals as goal

pub returns : goal.returns
returns c = rw (c.next_work.ensures, c.waiting_of-waiting.ensures) refl
