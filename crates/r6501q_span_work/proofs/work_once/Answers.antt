use Rattle.r6501q_span_work.proofs.work_once.Goals as goal

pub returns-in-None : goal.returns-in-None
returns-in-None c = record {
  worked_on = rw c.in-None.is (c.work_instruction.ensures.value, c.work_instruction.ensures.memory_after);
  sums_after = c.work_instruction.ensures.sums_after;
}

pub returns-in-Some : goal.returns-in-Some
returns-in-Some c = record {
  worked_on = rw c.in-Some.is (c.put_within.ensures.value, c.put_within.ensures.memory_after);
  sums_after =
      c.put_within.ensures.sums_after;
}
