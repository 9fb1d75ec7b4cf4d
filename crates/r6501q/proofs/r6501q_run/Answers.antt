use Rattle.r6501q.specs.Calls.{host_call}
use mathlib.Core.Path.{sym, ◌∙◌}
use Rattle.leaps.specs.CallLists.{run_of, plain_run_of}
use Rattle.r6501q_chip.specs.R6501q.{machine}
use Rattle.r6501q.proofs.Called.{host_called_lem}
use borrow.Author.Tests.{not-true, not-false}
use Rattle.r6501q.proofs.r6501q_run.Goals as goal

pub returns-then-not-flags_fit : goal.returns-then-not-flags_fit
unfolding host_call
returns-then-not-flags_fit c = record {
  outputwords_value = rw (
    ← c.flags_fit.ensures,
    c.flag_refused.ensures,
    c.if-not-flags_fit.true,
  );
  outputwords_value_2 = rw (
    ← c.flags_fit.ensures,
    c.flag_refused.ensures,
    c.if-not-flags_fit.true,
  );
}

pub returns : goal.returns
returns c =
    let at = c.args in
    let fits = sym c.flags_fit.ensures
    ∙ c.if-not-flags_fit.false in
    let state = c.into in
    let halt = c.halt_of in record {
      outputwords_value = host_called_lem (λ h. run_of (machine h) at.n) at.n at.memory.now at.inputclocks.now
          at.inputcodes.now
          at.outputclocks.now at.outputwords.now at.state state.result _ halt.result c.run-result.result _
          _ _
          _ fits state.ensures halt.ensures c.into-2.ensures c.run-result.ensures.outputwords_value;
      outputwords_value_2 = host_called_lem (λ h. plain_run_of (machine h) at.n) at.n at.memory.now at.inputclocks.now
          at.inputcodes.now
          at.outputclocks.now at.outputwords.now at.state state.result _ halt.result c.run-result.result _
          _ _
          _ fits state.ensures halt.ensures c.into-2.ensures c.run-result.ensures.outputwords_value_2;
    }
