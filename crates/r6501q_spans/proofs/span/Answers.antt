use mathlib.Core.Path.{sym, ◌∙◌}
use native.Mathlib.Omega.{arith}
use Rattle.r6501q_spans.proofs.Ticked.{span_alone}
use Rattle.r6501q_spans.proofs.span.Goals as goal

pub returns-then-only_cpu : goal.returns-then-only_cpu
returns-then-only_cpu c =
    let u = c.unseen_clocks.ensures in (
      λ some.
          span_alone _ _ _ _ _ _ _ _
          (sym c.only_cpu.ensures
          ∙ c.if-only_cpu.true)
          c.to_input.ensures c.to_change.ensures
          c.nearer-input.ensures c.nearer.ensures u.0 u.2 some,
      u.1,
    )

pub returns : goal.returns
returns c = (λ some. absurd (omega arith), omega arith)
