use mathlib.Core.Path.{◌≡◌, sym, ◌∙◌}
use mathlib.Core.Bool.{true, false}
use lib.ListN.{length}
use native.Mathlib.Omega.{arith}
use Rattle.page_sums.specs.PageSums.{page_list_refused, SixteenBits}
use Rattle.page_sums.proofs.Sums.{sums_kept}
use Rattle.leaps.specs.CallLists.{run_of, plain_run_of}
use Rattle.leaps.specs.Calls.{call_start}
use Rattle.leaps.proofs.Summed.{list_refused, list_accepted}
use Rattle.r6501q_chip.specs.R6501q.{World, machine}
use Rattle.r6501q_run.proofs.run_with_sums.Goals as goal

pub returns-then-page_list_refused : goal.returns-then-page_list_refused
returns-then-page_list_refused c =
    let at = c.args in
    let start : World = call_start at.state at.memory.now at.inputclocks.now at.inputcodes.now
    at.outputclocks.now at.outputwords.now in
    let words : SixteenBits at.sums.now =
    λ p. omega (arith, c.type_inv.sums p) in
    let told : c.page_list_refused.result
    ≡ page_list_refused (length at.memory.now) (length at.sums.now) =
    c.page_list_refused.ensures in
    let wrong : page_list_refused (length at.memory.now) (length at.sums.now) ≡ true =
    sym told ∙ c.if-page_list_refused.true in
    let leaps = list_refused at.sums.now (run_of (machine at.halt) at.n) start wrong in
    let plains = list_refused at.sums.now (plain_run_of (machine at.halt) at.n) start wrong in
    let kept = sums_kept 0 at.sums.now at.memory.now words in record {
      outputwords_value = rw (c.refused.ensures, c.into.ensures) (sym leaps);
      outputwords_value_2 = rw (c.refused.ensures, c.into.ensures) (sym plains);
      sums_after = kept;
    }

pub returns : goal.returns
returns c =
    let at = c.args in
    let start : World = call_start at.state at.memory.now at.inputclocks.now at.inputcodes.now
    at.outputclocks.now at.outputwords.now in
    let told :
    c.page_list_refused.result
    ≡ page_list_refused (length at.memory.now) (length at.sums.now) =
    c.page_list_refused.ensures in
    let right : page_list_refused (length at.memory.now) (length at.sums.now)
    ≡ false = sym told
    ∙ c.if-page_list_refused.false in
    let leaps = list_accepted at.sums.now (run_of (machine at.halt) at.n) start right in
    let plains = list_accepted at.sums.now (plain_run_of (machine at.halt) at.n) start right in record {
      outputwords_value = c.run_into.ensures.outputwords_value
          ∙ sym leaps;
      outputwords_value_2 = c.run_into.ensures.outputwords_value_2
          ∙ sym plains;
      sums_after = c.run_into.ensures.sums_after;
    }
