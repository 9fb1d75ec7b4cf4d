use mathlib.Core.Path.{sym}
use Rattle.serial_format.proofs.Frames.{frame_length}
use Rattle.serial_format.proofs.frame_length.Goals as goal

pub returns : goal.returns
returns c = rw c.data_width.ensures (sym (frame_length c.args.sccr c.args.byte))
