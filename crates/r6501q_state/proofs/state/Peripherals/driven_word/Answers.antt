use Rattle.r6501q_state.specs.Pins.{driven_word}
use mathlib.Core.Path.{refl}
use Rattle.r6501q_state.proofs.state.Peripherals.driven_word.Goals as goal

pub returns : goal.returns
unfolding driven_word
returns c = simp (c.word_of.ensures, c.drive_d-d.ensures, c.drive_a-a.ensures) refl
