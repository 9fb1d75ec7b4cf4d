-- 001, C.1, "I/O and internal register addresses".
use Rattle.std.specs.Prelude.{ℕ}

abbrev pub port_a_address : ℕ
port_a_address = 0x00

abbrev pub port_b_address : ℕ
port_b_address = 0x01

abbrev pub port_c_address : ℕ
port_c_address = 0x02

abbrev pub port_d_address : ℕ
port_d_address = 0x03

-- "Clear Int Flag (Bits 0-3 only ..)"
abbrev pub flag_clear_address : ℕ
flag_clear_address = 0x10

abbrev pub interrupt_flags_address : ℕ
interrupt_flags_address = 0x11

abbrev pub interrupt_enable_address : ℕ
interrupt_enable_address = 0x12

abbrev pub mode_control_address : ℕ
mode_control_address = 0x14

abbrev pub serial_control_address : ℕ
serial_control_address = 0x15

abbrev pub serial_status_address : ℕ
serial_status_address = 0x16

-- data received, data to be sent
abbrev pub serial_data_address : ℕ
serial_data_address = 0x17

-- the lower byte of counter A, or of its latch
abbrev pub lower_a_address : ℕ
lower_a_address = 0x18

-- the upper byte
abbrev pub upper_a_address : ℕ
upper_a_address = 0x19

-- the upper latch, and the counter from its latch
abbrev pub start_a_address : ℕ
start_a_address = 0x1A

-- the lower byte of counter B, or of latch B
abbrev pub lower_b_address : ℕ
lower_b_address = 0x1C

-- the upper byte, and latch C from latch B
abbrev pub upper_b_address : ℕ
upper_b_address = 0x1D

-- the upper latch, and the counter from its latch
abbrev pub start_b_address : ℕ
start_b_address = 0x1E
