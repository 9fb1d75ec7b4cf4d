use mathlib.Core.Path.{refl, sym, ◌∙◌}
use Rattle.r6501q_span_reads.proofs.steady.answered_once.Goals as goal

pub returns-then-steady_ask : goal.returns-then-steady_ask
returns-then-steady_ask c =
    let steady = sym c.steady_ask.ensures ∙ c.if-steady_ask.true in
    rw (c.instruction.ensures, c.value.ensures, steady) refl

pub returns : goal.returns
returns c = rw (sym c.steady_ask.ensures ∙ c.if-steady_ask.false) refl
