use Rattle.r6501q_clock.specs.Clock.{count_a, after_a}
use mathlib.Core.Path.{refl}
use Rattle.r6501q_clock.proofs.count_a.Goals as goal

pub returns : goal.returns
unfolding count_a
returns c = rw (
  c.ticks_of.ensures,
  c.flip_where-latch.ensures,
  c.toggles_output.ensures,
  c.set_where-flags.ensures,
  ← c.mode_a-mode.ensures,
  ← c.pin_rose.ensures,
  ← c.bit32.ensures,
  ← c.clock-counted.ensures,
) (refl {a = after_a
    c.args.p
    c.mode_a-mode.result
    c.clock-counted.result})
