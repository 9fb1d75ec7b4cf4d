use mathlib.Core.Path.{refl}
use Rattle.r6501q_spans.proofs.working_state.Goals as goal

pub returns : goal.returns
returns c = rw (c.cpu_of-cpu.ensures, c.pass_unseen-peripherals.ensures) refl
