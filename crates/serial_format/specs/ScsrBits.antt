-- The bits of the status register SCSR (001, 5.3).
use Rattle.std.specs.Prelude.{ℕ}

abbrev pub receiver_full : ℕ
receiver_full = 0

abbrev pub overrun : ℕ
overrun = 1

abbrev pub parity_error : ℕ
parity_error = 2

abbrev pub framing_error : ℕ
framing_error = 3

abbrev pub end_of_transmission : ℕ
end_of_transmission = 5

abbrev pub transmitter_empty : ℕ
transmitter_empty = 6

abbrev pub underrun : ℕ
underrun = 7
