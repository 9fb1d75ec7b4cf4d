-- The parity of what was received.
use mathlib.Core.Path.{◌≡◌, ap, subst}
use mathlib.Core.Bool.{not, cond}
use Prim.Native.Nat.{ℕ, ◌-◌, ◌/◌, ◌%◌, ◌^◌}
use native.Mathlib.Nat.{mod-lt, mod-eq_of_lt}
use Rattle.bits.specs.Bits.{bit, one_where}
use Rattle.bits.specs.Lists.{bits_of, odd_ones}
use Rattle.serial_format.specs.Format.{width, has_parity, parity_bit, data_bits}
use Rattle.serial_format.proofs.Frames.{odd_data, data_lt, values_pos}
use Rattle.serial_receiver.specs.Receiver.{received_byte}

-- the parity of a received byte is that of its data bits
pub parity_byte : (sccr register : ℕ)
    → parity_bit sccr (bits_of 8 (received_byte sccr register))
    ≡ parity_bit sccr (data_bits sccr (received_byte sccr register))
unfolding parity_bit received_byte
parity_byte sccr register =
    let x = register / 2 ^ (10 - one_where (has_parity sccr) - width sccr) in
    let o = odd_data sccr (x % 2 ^ width sccr) (data_lt sccr x) in
    let m : x % 2 ^ width sccr % 2 ^ width sccr ≡ x % 2 ^ width sccr = mod-eq_of_lt (mod-lt x (values_pos sccr)) in
    let o' : odd_ones (bits_of 8 (x % 2 ^ width sccr)) ≡ odd_ones (data_bits sccr (x % 2 ^ width sccr)) =
    subst (λ y. odd_ones (bits_of 8 y) ≡ odd_ones (data_bits sccr (x % 2 ^ width sccr))) m o in
    ap (λ odd. cond (bit 0 sccr) odd (not odd)) o'
