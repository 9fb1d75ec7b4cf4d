use Rattle.std.proofs.Common.{rules}
use Rattle.bits.proofs.Bits.{with_bit_lt}
use Rattle.bits.proofs.with_bit.Goals as goal

pub overflow_cast-result : goal.overflow_cast-result
overflow_cast-result c =
    let fits = with_bit_lt 8 c.args.k c.args.x c.args.on c.requires (search rules) in
    rw c.with_bit32.ensures (search rules)
