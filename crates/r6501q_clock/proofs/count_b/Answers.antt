use Rattle.r6501q_clock.specs.Clock.{count_b}
use mathlib.Core.Path.{refl}
use Rattle.r6501q_clock.proofs.count_b.Goals as goal

pub returns : goal.returns
unfolding count_b
returns c = rw (
  c.flip_where-latch.ensures,
  c.toggles_output.ensures,
  c.set_where-flags.ensures,
  c.clock-counted.ensures,
  c.pin_rose.ensures,
  c.mode_b-mode.ensures,
) refl
