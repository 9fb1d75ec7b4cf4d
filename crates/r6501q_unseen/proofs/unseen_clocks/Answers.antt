use Rattle.r6501q_unseen.proofs.Clocks.{unseen_before}
use Rattle.counters.specs.declared.time.Clocks.{Clocks}
use mathlib.Core.Bool.{false≢true}
use mathlib.Core.Path.{sym, ap, ◌∙◌}
use native.Mathlib.Omega.{arith}
use Rattle.r6501q_unseen.proofs.unseen_clocks.Goals as goal

pub returns-then-not-counting_a : goal.returns-then-not-counting_a
returns-then-not-counting_a c =
    let room = ap (λ (x : Clocks). x.0) c.nearer.ensures in
    let b = c.before_b-b.ensures in
    let a = c.args in (
      omega arith,
      omega arith,
      unseen_before c.before_b-b.result.0 a.ports a.p
          (λ e. absurd (false≢true (sym (c.if-not-counting_a.true) ∙ c.counting_a.ensures ∙ e))) b.1,
    )

pub returns : goal.returns
returns c =
    let room = ap (λ (x : Clocks). x.0) c.nearer.ensures in
    let b = c.before_b-b.ensures in
    let a = c.args in
    let n = ap (λ (x : Clocks). x.0) c.nearer-2.ensures in (
      omega arith,
      omega arith,
      unseen_before c.nearer-2.result.0 a.ports a.p
          (λ _. rw (← c.unseen_ticks.ensures.0) (omega arith))
          (λ e. let k = b.1 e in omega arith),
    )
