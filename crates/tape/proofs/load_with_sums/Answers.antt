use mathlib.Core.Path.{◌≡◌, sym, ◌∙◌}
use mathlib.Core.Bool.{true, false}
use lib.ListN.{length}
use native.Mathlib.Omega.{arith}
use Rattle.bits.proofs.Cond.{cond_yes, cond_no}
use Rattle.page_sums.specs.PageSums.{page_list_refused, SixteenBits}
use Rattle.page_sums.proofs.Sums.{sums_kept}
use Rattle.tape.specs.Tapes.{load_result, loaded, load_of, load_with_sums_of}
use Rattle.tape.proofs.load_with_sums.Goals as goal

pub returns-then-page_list_refused : goal.returns-then-page_list_refused
unfolding load_with_sums_of
returns-then-page_list_refused c =
    let at = c.args in
    let memory = at.memory.now in
    let sums = at.sums.now in
    let told : c.page_list_refused.result ≡ page_list_refused (length memory) (length sums) =
    c.page_list_refused.ensures in
    let wrong : page_list_refused (length memory) (length sums) ≡ true = sym told ∙ c.if-page_list_refused.true in
    let words : SixteenBits sums = λ p. omega (arith, c.type_inv.sums p) in record {
      memory_after = sym (cond_yes _ (loaded (load_result 13 0) memory) (load_of at.tape.now memory) wrong);
      sums_after = sums_kept 0 sums memory words;
    }

pub returns : goal.returns
unfolding load_with_sums_of
returns c =
    let at = c.args in
    let memory = at.memory.now in
    let sums = at.sums.now in
    let told : c.page_list_refused.result
    ≡ page_list_refused (length memory) (length sums) =
    c.page_list_refused.ensures in
    let right : page_list_refused (length memory) (length sums) ≡ false =
    sym told ∙ c.if-page_list_refused.false in record {
      memory_after = c.load_into.ensures.memory_after
          ∙ sym (cond_no _ (loaded (load_result 13 0) memory) (load_of at.tape.now memory) right);
      sums_after =
          c.load_into.ensures.sums_after;
    }
