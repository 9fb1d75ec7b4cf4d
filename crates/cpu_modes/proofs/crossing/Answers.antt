use Rattle.std.proofs.Common.{refl}
use Rattle.cpu_modes.proofs.crossing.Goals as goal

pub returns : goal.returns
returns c = rw c.other_page.ensures refl
