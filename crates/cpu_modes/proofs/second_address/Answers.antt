use Rattle.std.proofs.Common.{refl}
use Rattle.cpu_modes.proofs.second_address.Goals as goal

pub returns : goal.returns
returns c =
    rw (
      c.word16.ensures,
      c.high_byte.ensures,
      c.wrapping_add_u8-lower.ensures.value,
      c.low_byte.ensures,
    ) refl
