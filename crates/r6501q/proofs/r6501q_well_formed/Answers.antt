use Rattle.r6501q.proofs.r6501q_well_formed.Goals as goal

pub returns : goal.returns
returns c = rw (
  c.one_where.ensures,
  c.well_formed-2.ensures,
  c.into.ensures,
  c.flags_fit.ensures,
)
