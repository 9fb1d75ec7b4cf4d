use Rattle.std.proofs.Common.{◌∙◌, sym}
use Rattle.test_instructions.proofs.Equal.{state_same}
use Rattle.test_instructions.proofs.Results.{results_same}
use Rattle.test_instructions.proofs.instruction.done_with.Goals as goal

pub returns : goal.returns
returns c e =
    results_same _ _ c.eq-state.result e (λ same. state_same _ _ (sym c.eq-state.ensures ∙ same) ∙ c.later.ensures)
