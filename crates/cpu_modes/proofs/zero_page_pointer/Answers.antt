use Rattle.std.proofs.Common.{refl}
use Rattle.cpu_modes.specs.Modes.{zero_page_pointer}
use Rattle.cpu_modes.proofs.zero_page_pointer.Goals as goal

pub returns : goal.returns
unfolding zero_page_pointer
returns c = rw (c.read_address.ensures, c.wrapping_add_u8-high.ensures.value) refl
