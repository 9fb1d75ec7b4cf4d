-- Sums and differences of bytes, binary and decimal, with the flags that they leave.
use Rattle.std.specs.Prelude.{Bool, not, ◌&&◌, cond, ℕ, ◌+◌, ◌-◌, ◌*◌, ◌/◌, ◌%◌, leb, eqb, ℤ, pos, negsuc, ◌+ℤ◌, ◌-ℤ◌}
use Rattle.std.specs.Bool.{beq}
use Rattle.std.proofs.Math.IntN.{sub_ℕ}
use Rattle.std.specs.Int.Signed.{non_neg}
use Rattle.bits.specs.Bits.{bit, one_where, wrapping8}
use Rattle.cpu_alu.specs.Status.{with_nz, with_v, with_c, computed}
use Rattle.cpu_alu.specs.declared.Status.{Status}
use Rattle.cpu_alu.specs.declared.Computed.{Computed}

-- V: operands of one sign and a result of the other
unfoldable pub overflow : ℕ → ℕ → ℕ → Bool
overflow a m r = beq (bit 7 a) (bit 7 m) && not (beq (bit 7 a) (bit 7 r))

-- a + m + C
abbrev pub sum : ℕ → ℕ → Bool → ℕ
sum a m c = a + m + one_where c

unfoldable pub add_binary : ℕ → ℕ → Status → Computed
add_binary a m s =
    computed (sum a m s.c % 256)
    (with_v (overflow a m (sum a m s.c % 256)) (with_c (leb 256 (sum a m s.c)) s))

-- 01, Instructions: "low digits plus C; from 10 up, that sum becomes ((it + 6) mod 16) + 16"
abbrev pub carried : ℕ → ℕ
carried l = cond (leb 10 l) ((l + 6) % 16 + 16) l

unfoldable pub low_sum : ℕ → ℕ → Bool → ℕ
low_sum a m c = carried (a % 16 + m % 16 + one_where c)

-- "Add the high digits"
unfoldable pub digit_sum : ℕ → ℕ → Bool → ℕ
digit_sum a m c = low_sum a m c + a / 16 * 16 + m / 16 * 16

-- "from A0h up add 60h"
unfoldable pub corrected : ℕ → ℕ
corrected t = cond (leb 0xA0 t) (t + 0x60) t

-- of the sum t of the digits: "N, V from this", "C if 100h or more", "Z is binary"
abbrev pub decimal_flags : ℕ → ℕ → ℕ → Status → Status
decimal_flags a m t s = record {
  n = bit 7 (t % 256);
  v = overflow a m (t % 256);
  d = s.d;
  i = s.i;
  z = eqb (sum a m s.c % 256) 0;
  c = leb 0x100 (corrected t);
}

unfoldable pub add_decimal : ℕ → ℕ → Status → Computed
add_decimal a m s = record {
  value = corrected (digit_sum a m s.c) % 256;
  status = decimal_flags a m (digit_sum a m s.c) s;
}

unfoldable pub adc_of : ℕ → ℕ → Status → Computed
adc_of a m s = cond s.d (add_decimal a m s) (add_binary a m s)

-- the remainder of an integer, from 0 to n - 1
abbrev pub modulo : ℤ → ℕ → ℕ
modulo (pos k) n = k % n
modulo (negsuc k) n = n - 1 - k % n

-- 01, Instructions: "low difference less borrow"
abbrev pub low_difference : ℕ → ℕ → Bool → ℤ
low_difference a m c = sub_ℕ (a % 16) (m % 16 + one_where (not c))

-- "if negative, ((it - 6) mod 16) - 16"
abbrev pub borrowed : ℤ → ℤ
borrowed l = cond (not (non_neg l)) (sub_ℕ (modulo (l -ℤ pos 6) 16) 16) l

-- "add the high difference"
unfoldable pub digit_difference : ℕ → ℕ → Bool → ℤ
digit_difference a m c = borrowed (low_difference a m c) +ℤ sub_ℕ (a / 16 * 16) (m / 16 * 16)

-- "if negative subtract 60h"
abbrev pub lowered : ℤ → ℤ
lowered t = cond (not (non_neg t)) (t -ℤ pos 0x60) t

unfoldable pub decimal_difference : ℕ → ℕ → Bool → ℕ
decimal_difference a m c = modulo (lowered (digit_difference a m c)) 256

-- a - m less borrow, as the sum with the complement of m
abbrev pub subtract_binary : ℕ → ℕ → Status → Computed
subtract_binary a m s = add_binary a (255 - m) s

-- "Flags are binary"
unfoldable pub sbc_of : ℕ → ℕ → Status → Computed
sbc_of a m s =
    cond s.d
    (record { value = decimal_difference a m s.c; status = (subtract_binary a m s).status })
    (subtract_binary a m s)

-- CMP, CPX, CPY: N and Z of the difference, C where the register r is not below m; V is kept
unfoldable pub compare_of : ℕ → ℕ → Status → Status
compare_of r m s = with_nz (wrapping8 r (256 - m)) (with_c (leb m r) s)
