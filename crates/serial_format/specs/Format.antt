-- What SCCR says (01, Registers), and the frame (01, Serial channel).
use Rattle.std.specs.Prelude.{Bool, true, false, ◌&&◌, ◌||◌, not, cond, List, [], ◌∷◌, ◌++◌, ℕ, ◌-◌, ◌/◌, ◌%◌}
use Rattle.bits.specs.Bits.{bit}
use Rattle.bits.specs.Lists.{bits_of, odd_ones}

-- "SCCR5: transmitter shifts; else SCCR4: receiver shifts"
abbrev pub transmitter_shifts : ℕ → Bool
transmitter_shifts sccr = bit 5 sccr

abbrev pub receiver_shifts : ℕ → Bool
receiver_shifts sccr = not (bit 5 sccr) && bit 4 sccr

-- "Transmitter (SCCR7)", "Receiver (SCCR6)": on and asynchronous
unfoldable pub transmitter_asynchronous : ℕ → Bool
transmitter_asynchronous sccr = bit 7 sccr && not (transmitter_shifts sccr)

unfoldable pub receiver_asynchronous : ℕ → Bool
receiver_asynchronous sccr = bit 6 sccr && not (receiver_shifts sccr)

-- 02, U1: a receiver that is on and in shift-register mode
unfoldable pub receiver_shifting : ℕ → Bool
receiver_shifting sccr = bit 6 sccr && receiver_shifts sccr

-- 01, One clock, 2: "SCCR7, or SCCR6 with an asynchronous receiver, holds A to mode 00."
unfoldable pub holds_a : ℕ → Bool
holds_a sccr = bit 7 sccr || receiver_asynchronous sccr

-- 01, Serial channel: "Writing SCCR zeroes the progress of each half that the new value has off or in shift-register
-- mode." 02, U1: "A write of SCCR that changes a half's mode zeroes its progress too." What is left: which progress is
-- kept.
unfoldable pub keeps_transmitter : ℕ → ℕ → Bool
keeps_transmitter old sccr = transmitter_asynchronous sccr && not (transmitter_shifts old)

unfoldable pub keeps_receiver : ℕ → ℕ → Bool
keeps_receiver old sccr = receiver_asynchronous sccr && not (receiver_shifts old)

-- "SCCR3, SCCR2 00 to 11: 8, 7, 6, 5 bits; SCCR1 parity, SCCR0 even"
abbrev pub width : ℕ → ℕ
width sccr = 8 - sccr / 4 % 4

abbrev pub has_parity : ℕ → Bool
has_parity sccr = bit 1 sccr

-- even parity makes the number of ones even, odd parity odd
unfoldable pub parity_bit : ℕ → List Bool → Bool
parity_bit sccr bits = cond (bit 0 sccr) (odd_ones bits) (not (odd_ones bits))

-- the data bits of a byte, "data lowest bit first"
abbrev pub data_bits : ℕ → ℕ → List Bool
data_bits sccr byte = bits_of (width sccr) byte

-- "Two stops without parity; with it Figure 5-2's number, one if unreadable." (it is)
abbrev pub parity_and_stops : ℕ → List Bool → List Bool
parity_and_stops sccr bits = cond (has_parity sccr) (parity_bit sccr bits ∷ true ∷ []) (true ∷ true ∷ [])

-- "a frame: start 0, data lowest bit first, parity, stops, bit 0 first"
unfoldable pub frame_bits : ℕ → ℕ → List Bool
frame_bits sccr byte = false ∷ data_bits sccr byte ++ parity_and_stops sccr (data_bits sccr byte)

-- the ticks that a bit lasts: of a frame 16; 02, U1, in shift-register mode: "shifted at each tick that makes the phase
-- even"
abbrev pub pace_in : Bool → ℕ
pace_in shifts = cond shifts 2 16

unfoldable pub pace : ℕ → ℕ
pace sccr = pace_in (transmitter_shifts sccr)
