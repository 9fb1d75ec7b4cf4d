use Rattle.r6501q.proofs.r6501q_load_with_sums.Goals as goal

pub returns : goal.returns
returns c = record {
  memory_after = rw (← c.load_with_sums.ensures.memory_after, ← c.into.ensures);
  sums_after =
      c.load_with_sums.ensures.sums_after;
}
