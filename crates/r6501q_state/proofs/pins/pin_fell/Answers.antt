use Rattle.r6501q_state.specs.Pins.{fell}
use Rattle.r6501q_state.proofs.pins.pin_fell.Goals as goal

pub returns : goal.returns
unfolding fell
returns c = rw (← c.bit32-was.ensures, ← c.bit32-is.ensures)
