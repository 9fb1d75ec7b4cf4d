use mathlib.Core.Path.{◌∙◌}
use Rattle.r6501q_step.proofs.check_call.Goals as goal

pub returns : goal.returns
returns c = c.check.ensures ∙ rw (c.limits.ensures, c.well_formed-2.ensures)
