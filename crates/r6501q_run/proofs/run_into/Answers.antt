use Rattle.std.proofs.Common.{rules}
use mathlib.Core.Path.{◌≡◌, sym, ◌∙◌}
use native.Mathlib.Omega.{arith}
use Rattle.refusals.proofs.Accepted.{number_some}
use Rattle.page_sums.specs.PageSums.{SixteenBits}
use Rattle.page_sums.proofs.Sums.{sums_kept}
use Rattle.r6501q_leap.proofs.Runs.{leaping_begins, begins_bound, run_refused, runs, runs_plainly}
use Rattle.r6501q_run.proofs.run_into.Goals as goal

pub returns-in-Err : goal.returns-in-Err
returns-in-Err c =
    let at = c.args in
    let words : SixteenBits at.sums.now = λ p. omega (arith, c.type_inv.sums p) in
    let told = rw c.in-Err.is at c.check_call-checked.ensures in
    let left = run_refused at.halt at.n at.state at.memory.now at.inputclocks.now at.inputcodes.now at.outputclocks.now
    at.outputwords.now _ told (number_some c.in-Err.refusal) in
    let plainly = runs_plainly at.halt at.n at.state at.memory.now at.inputclocks.now at.inputcodes.now
    at.outputclocks.now at.outputwords.now in record {
      outputwords_value = rw (c.refused.ensures, c.into.ensures) left;
      outputwords_value_2 = rw (c.refused.ensures, c.into.ensures) (left ∙ plainly);
      sums_after = sums_kept 0 at.sums.now at.memory.now words;
    }

pub invariant_of-lists : goal.invariant_of-lists
invariant_of-lists c =
    let at = c.args in
    let leaping = leaping_begins at.state at.n at.memory.now at.inputclocks.now at.inputcodes.now at.outputclocks.now
    at.outputwords.now (sym c.in_default.ensures) in record {
      inputs = leaping.inputs;
      outputs = leaping.outputs;
    }

pub leap_on-end-requires : goal.leap_on-end-requires
leap_on-end-requires c =
    let at = c.args in
    let good = sym c.in_default.ensures in
    rw c.begin_run.ensures (record {
      leaping = leaping_begins at.state at.n at.memory.now at.inputclocks.now at.inputcodes.now
          at.outputclocks.now at.outputwords.now good;
      left_bound = begins_bound at.state at.n at.memory.now at.inputclocks.now at.inputcodes.now
          at.outputclocks.now at.outputwords.now good;
    })

pub returns-clause-outputwords_value : goal.returns-clause-outputwords_value
returns-clause-outputwords_value c =
    let at = c.args in
    let later = c.leap_on-end.new in
    let went = rw c.begin_run.ensures at c.leap_on-end.ensures.run in
    let bytes : c.memory-5-1.given.0 ≡ later.memory.bytes.now = search rules in
    let times : c.outputclocks-1.given.0 ≡ later.lists.outputclocks.now = search rules in
    let words : c.outputwords-1.given.0 ≡ later.lists.outputwords.now = search rules in
    rw (c.result_of.ensures, bytes, times, words)
    (runs at.state at.n at.memory.now at.inputclocks.now at.inputcodes.now at.outputclocks.now at.outputwords.now
    (sym c.in_default.ensures) at.halt c.leap_on-end.result later.memory.bytes.now later.lists.outputclocks.now
    later.lists.outputwords.now went)

pub returns-clause-outputwords_value_2 : goal.returns-clause-outputwords_value_2
returns-clause-outputwords_value_2 c =
    let at = c.args in
    let later = c.leap_on-end.new in
    let went = rw c.begin_run.ensures at c.leap_on-end.ensures.run in
    let bytes : c.memory-5-1.given.0 ≡ later.memory.bytes.now = search rules in
    let times : c.outputclocks-1.given.0 ≡ later.lists.outputclocks.now = search rules in
    let words : c.outputwords-1.given.0 ≡ later.lists.outputwords.now = search rules in
    rw (c.result_of.ensures, bytes, times, words)
    (runs at.state at.n at.memory.now at.inputclocks.now at.inputcodes.now at.outputclocks.now at.outputwords.now
    (sym c.in_default.ensures) at.halt c.leap_on-end.result later.memory.bytes.now later.lists.outputclocks.now
    later.lists.outputwords.now went
    ∙ runs_plainly at.halt at.n at.state at.memory.now at.inputclocks.now at.inputcodes.now at.outputclocks.now
    at.outputwords.now)
