use Rattle.r6501q_state.specs.Pins.{drive_d}
use Rattle.r6501q_state.proofs.state.Peripherals.drive_d.Goals as goal

pub returns-then-bit8 : goal.returns-then-bit8
unfolding drive_d
returns-then-bit8 c = rw (← c.bit8.ensures, c.if-bit8.true)

pub returns : goal.returns
unfolding drive_d
returns c = rw (← c.bit8.ensures, c.if-bit8.false)
