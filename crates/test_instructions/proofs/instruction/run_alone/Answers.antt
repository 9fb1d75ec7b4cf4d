use Rattle.std.proofs.Common.{sym, ap}
use Rattle.r6501q_chip.specs.R6501q.{Handed}
use Rattle.test_instructions.proofs.instruction.run_alone.Goals as goal

pub returns : goal.returns
returns c =
    let called = rw
    c.prepared.ensures
    at c.run.ensures.outputwords_value in record {
      memory_value = ap (λ (h : Handed). h.result) (sym called);
      memory_value_2 = ap (λ (h : Handed). h.memory) (sym
          called);
    }
