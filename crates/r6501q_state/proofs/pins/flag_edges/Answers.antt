use Rattle.r6501q_state.specs.Pins.{edges}
use mathlib.Core.Path.{refl}
use Rattle.r6501q_state.proofs.pins.flag_edges.Goals as goal

pub returns : goal.returns
unfolding edges
returns c = rw (
  c.set_where.ensures,
  c.pin_fell-2.ensures,
  c.set_where-third.ensures,
  c.pin_fell.ensures,
  c.set_where-second.ensures,
  c.pin_rose-2.ensures,
  c.set_where-first.ensures,
  c.pin_rose.ensures,
) refl
