-- The proved examples of document 01 on sums.
use mathlib.Core.Path.{◌≡◌, refl}
use mathlib.Core.Bool.{Bool, true, false}
use Rattle.cpu_alu.specs.Arithmetic.{adc_of, add_binary, add_decimal, digit_sum, low_sum, corrected, overflow}

-- P3: "decimal 58h + 46h + C: 05h, C"; the digits' sum before 60h is added is A5h, so N and V are set
pub p3 : (n v i z : Bool)
    → adc_of 0x58 0x46 (record { n = n; v = v; d = true; i = i; z = z; c = true })
    ≡ record { value = 0x05; status = record { n = true; v = true; d = true; i = i; z = false; c = true } }
unfolding adc_of add_decimal digit_sum low_sum corrected overflow
p3 n v i z = refl

-- P4: "7Fh + 01h: 80h, V, N"
pub p4 : (n v i z : Bool)
    → adc_of 0x7F 0x01 (record { n = n; v = v; d = false; i = i; z = z; c = false })
    ≡ record { value = 0x80; status = record { n = true; v = true; d = false; i = i; z = false; c = false } }
unfolding adc_of add_binary overflow
p4 n v i z = refl

-- 01, Instructions: "Z is binary": decimal 99h + 01h is 00h with Z clear, since the binary sum is 9Ah
pub decimal_zero : (n v i z : Bool)
    → adc_of 0x99 0x01 (record { n = n; v = v; d = true; i = i; z = z; c = false })
    ≡ record { value = 0x00; status = record { n = true; v = false; d = true; i = i; z = false; c = true } }
unfolding adc_of add_decimal digit_sum low_sum corrected overflow
decimal_zero n v i z = refl
