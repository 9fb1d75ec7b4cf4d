use mathlib.Core.Path.{sym, ◌∙◌}
use Rattle.r6501q_clock.proofs.Inputs.{inputs_more, inputs_over}
use Rattle.r6501q_clock.proofs.apply_inputs.Goals as goal

pub loop-code-preserved : goal.loop-code-preserved
loop-code-preserved c =
    rw c.input-set.ensures (sym (inputs_more _ _ _ c.loop-code-test.true) ∙ c.loop-code.invariant)

pub returns : goal.returns
returns c = sym (inputs_over _ _ _ c.loop-code-test.false) ∙ c.loop-code.invariant
