use mathlib.Core.Path.{◌≡◌, sym, ◌∙◌}
use mathlib.Core.Bool.{true, false}
use lib.ListN.{length}
use native.Mathlib.Omega.{arith}
use borrow.Author.Tests.{not-true, not-false}
use Rattle.page_sums.specs.PageSums.{page_list_refused, SixteenBits}
use Rattle.page_sums.proofs.Sums.{sums_kept}
use Rattle.leaps.specs.CallLists.{step_of}
use Rattle.leaps.specs.Calls.{call_start}
use Rattle.leaps.proofs.Summed.{list_refused, list_accepted}
use Rattle.r6501q_chip.specs.R6501q.{World, machine}
use Rattle.r6501q_host.specs.Host.{halt_of}
use Rattle.r6501q.specs.Calls.{HostWorld, host_call}
use Rattle.r6501q.proofs.r6501q_step_with_sums.Goals as goal

pub returns-then-page_list_refused : goal.returns-then-page_list_refused
returns-then-page_list_refused c =
    let at = c.args in
    let start : HostWorld = call_start at.state at.memory.now at.inputclocks.now at.inputcodes.now
    at.outputclocks.now at.outputwords.now in
    let words : SixteenBits at.sums.now =
    λ p. omega (arith, c.type_inv.sums p) in
    let told : c.page_list_refused.result
    ≡ page_list_refused (length at.memory.now) (length at.sums.now) =
    c.page_list_refused.ensures in
    let wrong : page_list_refused (length at.memory.now) (length at.sums.now) ≡ true =
    sym told ∙ c.if-page_list_refused.true in record {
      outputwords_value = rw c.wrong_page_list.ensures
          (sym (list_refused at.sums.now (host_call (step_of (machine (halt_of at.halt))) 1) start wrong));
      sums_after = sums_kept 0 at.sums.now at.memory.now words;
    }

pub returns-then-not-flags_fit : goal.returns-then-not-flags_fit
unfolding host_call
returns-then-not-flags_fit c =
    let at = c.args in
    let start : HostWorld = call_start at.state at.memory.now at.inputclocks.now at.inputcodes.now
    at.outputclocks.now at.outputwords.now in
    let words : SixteenBits at.sums.now = λ p. omega
    (arith, c.type_inv.sums p) in
    let told : c.page_list_refused.result
    ≡ page_list_refused (length at.memory.now) (length at.sums.now) =
    c.page_list_refused.ensures in
    let right : page_list_refused (length at.memory.now) (length at.sums.now) ≡ false =
    sym told ∙ c.if-page_list_refused.false in
    let next = list_accepted at.sums.now (host_call (step_of (machine (halt_of at.halt))) 1) start right in
    let high = c.if-not-flags_fit.true in record {
      outputwords_value = rw (next, ← c.flags_fit.ensures, c.flag_refused.ensures, high);
      sums_after = sums_kept 0
          at.sums.now at.memory.now words;
    }

pub returns : goal.returns
unfolding host_call
returns c =
    let at = c.args in
    let start : HostWorld = call_start at.state at.memory.now at.inputclocks.now at.inputcodes.now
    at.outputclocks.now at.outputwords.now in
    let library : World = call_start c.into.result at.memory.now at.inputclocks.now
    at.inputcodes.now at.outputclocks.now at.outputwords.now in
    let told :
    c.page_list_refused.result
    ≡ page_list_refused (length at.memory.now) (length at.sums.now) =
    c.page_list_refused.ensures in
    let right : page_list_refused (length at.memory.now) (length at.sums.now)
    ≡ false = sym told
    ∙ c.if-page_list_refused.false in
    let next = list_accepted at.sums.now (host_call (step_of (machine (halt_of at.halt))) 1) start right in
    let went = c.step_with_sums-result.ensures.outputwords_value
    ∙ list_accepted at.sums.now (step_of (machine c.halt_of.result)) library right in
    let fits = c.if-not-flags_fit.false in record {
      outputwords_value = rw (
        next,
        ← c.flags_fit.ensures,
        ← c.into.ensures,
        ← c.halt_of.ensures,
        ← went,
        c.into-2.ensures,
        fits,
      );
      sums_after = c.step_with_sums-result.ensures.sums_after;
    }
