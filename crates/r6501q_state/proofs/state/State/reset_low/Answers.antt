use Rattle.r6501q_state.specs.Pins.{reset_of}
use mathlib.Core.Path.{refl}
use Rattle.r6501q_state.proofs.state.State.reset_low.Goals as goal

pub returns : goal.returns
unfolding reset_of
returns c = rw (c.reset-peripherals.ensures, c.waiting_at-cpu.ensures) refl
