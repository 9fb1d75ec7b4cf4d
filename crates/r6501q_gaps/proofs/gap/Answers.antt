use mathlib.Core.Path.{◌≡◌, refl, sym, ap}
use native.Mathlib.Omega.{arith}
use Rattle.counters.specs.declared.time.Clocks.{Clocks}
use Rattle.r6501q_events.specs.Gaps.{to_cpu, gap_of}
use Rattle.r6501q_events.proofs.Gaps.{none_before_cpu, nearer_of}
use Rattle.r6501q_gaps.proofs.gap.Goals as goal

pub returns-then-cpu-eq0 : goal.returns-then-cpu-eq0
returns-then-cpu-eq0 c =
    let at = c.args in
    let cpu : to_cpu at.left.0 at.state ≡ 0 =
    omega (arith, ap (λ (r : Clocks). r.0) c.to_cpu-cpu.ensures, c.if-cpu-eq0.true) in
    sym (none_before_cpu at.left.0 at.state _ cpu)

pub returns : goal.returns
unfolding gap_of
returns c =
    let reset = nearer_of
    c.to_reset.ensures
    c.to_cpu-cpu.ensures c.nearer-reset.ensures in
    let underflow_b = nearer_of
    c.to_underflow_b.ensures reset
    c.nearer-underflow_b.ensures in
    let underflow_a = nearer_of c.to_underflow_a.ensures
    underflow_b c.nearer-underflow_a.ensures in
    let change = nearer_of c.to_change.ensures underflow_a
    c.nearer-change.ensures in
    let input = nearer_of c.to_input.ensures change c.nearer-input.ensures in
    nearer_of refl input c.nearer.ensures
