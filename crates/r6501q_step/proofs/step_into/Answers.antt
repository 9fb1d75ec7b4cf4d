use Rattle.std.proofs.Common.{rules}
use mathlib.Core.Path.{◌≡◌, sym, ◌∙◌}
use native.Mathlib.Omega.{arith}
use Rattle.refusals.proofs.Accepted.{number_some}
use Rattle.page_sums.specs.PageSums.{SixteenBits}
use Rattle.page_sums.proofs.Sums.{sums_kept}
use Rattle.r6501q_step.proofs.Calls.{pairs, begins, steps, refuses}
use Rattle.r6501q_step.proofs.step_into.Goals as goal

pub returns-in-Err : goal.returns-in-Err
returns-in-Err c =
    let at = c.args in
    let words : SixteenBits at.sums.now = λ p. omega (arith, c.type_inv.sums p) in
    let told = rw c.in-Err.is at c.check_call-checked.ensures in record {
      outputwords_value = rw (c.refused.ensures, c.into.ensures)
          (refuses at.halt at.state at.memory.now at.inputclocks.now at.inputcodes.now at.outputclocks.now
          at.outputwords.now _ told (number_some c.in-Err.refusal));
      sums_after = sums_kept 0 at.sums.now at.memory.now words;
    }

pub invariant_of-lists : goal.invariant_of-lists
invariant_of-lists c =
    let at = c.args in
    let pair = pairs at.state at.memory.now at.inputclocks.now at.inputcodes.now at.outputclocks.now at.outputwords.now
    (sym c.in_default.ensures) in record {
      inputs = pair.inputs;
      outputs = pair.outputs;
    }

pub advance-end-requires : goal.advance-end-requires
advance-end-requires c =
    let at = c.args in
    rw c.begin.ensures
    (begins at.state at.memory.now at.inputclocks.now at.inputcodes.now at.outputclocks.now at.outputwords.now
    (sym c.in_default.ensures) _)

pub returns-clause-outputwords_value : goal.returns-clause-outputwords_value
returns-clause-outputwords_value c =
    let at = c.args in
    let later = c.advance-end.new in
    let moved = rw c.begin.ensures at c.advance-end.ensures.world in
    let bytes : c.memory-5-1.given.0 ≡ later.memory.bytes.now = search rules in
    let times : c.outputclocks-1.given.0 ≡ later.lists.outputclocks.now = search rules in
    let words : c.outputwords-1.given.0 ≡ later.lists.outputwords.now = search rules in
    rw (c.result_of.ensures, c.leaps_from-leaps.ensures, bytes, times, words)
    (steps at.state at.memory.now at.inputclocks.now at.inputcodes.now at.outputclocks.now at.outputwords.now
    (sym c.in_default.ensures) at.halt c.advance-end.result later.memory later.lists moved)
