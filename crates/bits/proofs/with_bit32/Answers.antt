use native.Mathlib.Omega.{arith}
use native.Mathlib.Nat.{add-zero}
use Rattle.bits.specs.Bits.{with_bit}
use Rattle.bits.proofs.Bits.{weight, bit_within, bit_room}
use borrow.Author.Rules.{rules}
use Rattle.bits.proofs.with_bit32.Goals as goal

pub overflow_mul-kept : goal.overflow_mul-kept
overflow_mul-kept c = rw (weight 32 _ c.requires) (omega (arith, bit_within c.args.k c.args.x))

pub overflow_sub-kept : goal.overflow_sub-kept
overflow_sub-kept c = rw (weight 32 _ c.requires) (bit_within _ _)

pub overflow_add-result : goal.overflow_add-result
overflow_add-result c = rw (weight 32 _ c.requires)
    (omega (arith, bit_room 32 c.args.k c.args.x c.requires (search rules)))

pub returns-then-on : goal.returns-then-on
unfolding with_bit
returns-then-on c = rw (weight 32 _ c.requires, c.if-on.true)

pub returns-else-on : goal.returns-else-on
unfolding with_bit
returns-else-on c = rw (weight 32 _ c.requires, c.if-on.false, add-zero)
