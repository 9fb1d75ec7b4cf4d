use Rattle.r6501q_gaps.proofs.pass_counters.Goals as goal

pub returns : goal.returns
returns c = rw (
  c.pass-counter_b.ensures,
  c.counting_b.ensures,
  c.pass-counter_a.ensures,
  c.counting_a.ensures,
)
