use mathlib.Core.Path.{ap}
use Prim.Native.Nat.{ℕ, ◌+◌}
use native.Mathlib.Omega.{arith}
use Rattle.page_sums.proofs.Sums.{sums_then}
use Rattle.r6501q_span_leaps.proofs.Ticked.{shares_at_most}
use Rattle.r6501q_span_leaps.proofs.steps_on.Goals as goal

pub overflow_add-result : goal.overflow_add-result
overflow_add-result c =
    let room = c.run_working-ran.ensures.within_span_2 in
    let most = shares_at_most _ _ _ _ c.shared_in.ensures in
    omega (
      arith,
      room.1,
      room.0.gone,
      c.requires.span_bound.0,
      most,
    )

pub returns : goal.returns
returns c =
    let at = c.args in record {
      steps_on = record {
        middle = c.run_working-ran.result;
        between = c.run_working-ran.new.memory;
        ran = c.run_working-ran.ensures.runs_on;
        step = c.work_once-next.ensures.worked_on;
        shared = ap (λ (k : ℕ). c.run_working-ran.result.shared + k) c.shared_in.ensures;
        room = c.run_working-ran.ensures.within_span_2.0;
        fewer = c.run_working-ran.ensures.within_span_2.1;
        kept = c.run_working-ran.auto.memory;
        keeps = c.work_once-next.auto.memory;
      };
      sums_after = sums_then 0 at.sums.now at.memory.now c.run_working-ran.new.memory c.work_once-next.new.memory
          c.run_working-ran.ensures.sums_after
          c.work_once-next.ensures.sums_after;
    }

pub shared_in-requires : goal.shared_in-requires
shared_in-requires c = c.requires.span_bound.1
