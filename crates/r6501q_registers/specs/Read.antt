-- Reads of 00h to 3Fh: 001, C.1, column READ, a row for each address in its order; 01, Registers.
use Rattle.std.specs.Prelude.{Bool, false, cond, ℕ, ◌/◌, ◌%◌, eqb}
use Rattle.bits.specs.Bits.{low_byte, high_byte, with_bit}
use Rattle.r6501q_state.specs.declared.state.Peripherals.{Peripherals}
use Rattle.r6501q_state.specs.Copies.{flagged, scsr_set}
use Rattle.r6501q_state.specs.Control.{flags_of}
use Rattle.r6501q_registers.specs.Addresses.{port_a_address, port_b_address, port_c_address, port_d_address}
use Rattle.r6501q_registers.specs.Addresses.{flag_clear_address, interrupt_flags_address, interrupt_enable_address}
use Rattle.r6501q_registers.specs.Addresses.{mode_control_address, serial_control_address, serial_status_address}
use Rattle.r6501q_registers.specs.Addresses.{serial_data_address, lower_a_address, upper_a_address, start_a_address}
use Rattle.r6501q_registers.specs.Addresses.{lower_b_address, upper_b_address, start_b_address}

-- "Ports 00h to 03h: read step 1's levels"; 001, 4.1: "During the Read cycle of a Read/Modify/Write instruction the
-- Port I/O register is read. For all other read instructions the port input lines are read."
unfoldable pub port_value : Bool → ℕ → ℕ → ℕ
port_value modify latched levels = cond modify latched (levels % 256)

-- What is read. 01: "IFR reads at 11h"; "10h reads FFh"; Machine state, "unassigned registers read FFh".
unfoldable pub register_value : Peripherals → ℕ → Bool → ℕ → ℕ
register_value p levels modify at =
    cond (eqb at start_b_address) (low_byte p.counterb.count)  -- 1Eh
    (cond (eqb at upper_b_address) (high_byte p.counterb.count)  -- 1Dh
    (cond (eqb at lower_b_address) (low_byte p.counterb.count)  -- 1Ch
    (cond (eqb at start_a_address) (low_byte p.countera.count)  -- 1Ah
    (cond (eqb at upper_a_address) (high_byte p.countera.count)  -- 19h
    (cond (eqb at lower_a_address) (low_byte p.countera.count)  -- 18h
    (cond (eqb at serial_data_address) p.serial.received  -- 17h
    (cond (eqb at serial_status_address) p.control.scsr  -- 16h
    (cond (eqb at serial_control_address) p.control.sccr  -- 15h
    (cond (eqb at mode_control_address) p.control.mcr  -- 14h
    (cond (eqb at interrupt_enable_address) p.control.ier  -- 12h
    (cond (eqb at interrupt_flags_address) (flags_of p.control)  -- 11h
    (cond (eqb at flag_clear_address) 0xFF  -- 10h
    (cond (eqb at port_d_address) (port_value modify p.ports.d (levels / 0x1000000))  -- 03h
    (cond (eqb at port_c_address) (port_value modify p.ports.c (levels / 0x10000))  -- 02h
    (cond (eqb at port_b_address) (port_value modify p.ports.b (levels / 0x100))  -- 01h
    (cond (eqb at port_a_address) (port_value modify p.ports.a levels)  -- 00h
    0xFF))))))))))))))))

-- "reading clears SCSR0 to 3"
abbrev pub received_read : ℕ → ℕ
received_read scsr = with_bit 3 false (with_bit 2 false (with_bit 1 false (with_bit 0 false scsr)))

-- What a read leaves. C.1, "CLR Flag"; 01: "Data 17h: reading clears SCSR0 to 3"; "reading 18h or 1Ch clears the flag".
unfoldable pub after_read : Peripherals → ℕ → Peripherals
after_read p at =
    cond (eqb at lower_b_address) (flagged p (with_bit 5 false p.control.ifr))  -- 1Ch
    (cond (eqb at lower_a_address) (flagged p (with_bit 4 false p.control.ifr))  -- 18h
    (cond (eqb at serial_data_address) (scsr_set p (received_read p.control.scsr))  -- 17h
    p))
