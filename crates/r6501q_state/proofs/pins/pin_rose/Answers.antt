use Rattle.r6501q_state.specs.Pins.{rose}
use Rattle.r6501q_state.proofs.pins.pin_rose.Goals as goal

pub returns : goal.returns
unfolding rose
returns c = rw (← c.bit32-was.ensures, ← c.bit32-is.ensures)
