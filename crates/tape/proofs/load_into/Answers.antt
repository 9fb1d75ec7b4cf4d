use mathlib.Core.Path.{ap, sym, ◌∙◌}
use native.Mathlib.Omega.{arith}
use borrow.Author.Tests.{ne_eqb}
use Rattle.std.proofs.lemmas.Result.{err_from_is_err_and}
use Rattle.tape.proofs.Laws.{some_fault, load_refused, load_accepted}
use Rattle.page_sums.specs.PageSums.{SixteenBits}
use Rattle.page_sums.proofs.Sums.{sums_kept}
use Rattle.tape.specs.Tapes.{LoadResult, loaded, load_of}
use Rattle.tape.proofs.load_into.Goals as goal

pub returns-then-memory-ne-MEMORY_LENGTH : goal.returns-then-memory-ne-MEMORY_LENGTH
unfolding load_of
returns-then-memory-ne-MEMORY_LENGTH c =
    let at = c.args in
    let words : SixteenBits at.sums.now = λ p. omega (arith, c.type_inv.sums p) in record {
      memory_after = rw (ne_eqb _ _ c.if-memory-ne-MEMORY_LENGTH.true);
      sums_after = sums_kept 0 at.sums.now
          at.memory.now words;
    }

pub returns-in_err-end : goal.returns-in_err-end
returns-in_err-end c =
    let at = c.args in
    let told = c.in_err-end.ensures in
    let fault = c.in_err-end.field-0.0.fault in
    let error = err_from_is_err_and c.from_residual.result c.from_residual.ensures.1 in
    let words : SixteenBits at.sums.now = λ p. omega (arith, c.type_inv.sums p) in record {
      memory_after = rw (error.1, error.2)
          (ap (λ r. loaded r at.memory.now) told
          ∙ sym (load_refused at.tape.now at.memory.now c.if-memory-ne-MEMORY_LENGTH.false
          (λ z. some_fault fault (ap (λ (r : LoadResult). r.number) told ∙ z))));
      sums_after = sums_kept 0 at.sums.now at.memory.now words;
    }

pub returns : goal.returns
returns c = record {
  memory_after = rw c.land_all.ensures.memory_after
      (sym (load_accepted c.args.tape.now c.args.memory.now c.if-memory-ne-MEMORY_LENGTH.false _ (sym c.in_ok-end.ensures)));
  sums_after = c.land_all.ensures.sums_after;
}
