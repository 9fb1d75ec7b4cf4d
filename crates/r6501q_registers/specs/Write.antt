-- Writes of 00h to 3Fh: 001, C.1, column WRITE, a row for each address in its order; 01, Registers.
use Rattle.std.specs.Prelude.{false, ◌&&◌, not, cond, ℕ, eqb}
use Rattle.bits.specs.Bits.{bit, with_bit, set_where, flip_where}
use Rattle.counters.specs.Counters.{lower_a, upper_a, load_counter_a, lower_b, upper_b, copy_b, load_counter_b, turn_to_c}
use Rattle.serial_transmitter.specs.Transmitter.{transmitter_with_sccr}
use Rattle.serial_receiver.specs.Receiver.{receiver_with_sccr}
use Rattle.r6501q_state.specs.declared.state.Control.{Control}
use Rattle.r6501q_state.specs.declared.state.Peripherals.{Peripherals}
use Rattle.r6501q_state.specs.Copies.{with_counter_a, with_counter_b, with_control, with_sent, with_progress, flagged}
use Rattle.r6501q_state.specs.Copies.{scsr_set, latched_a}
use Rattle.r6501q_state.specs.Control.{mode_in_force, mode_b}
use Rattle.r6501q_registers.specs.Addresses.{port_a_address, port_b_address, port_c_address, port_d_address}
use Rattle.r6501q_registers.specs.Addresses.{flag_clear_address, interrupt_enable_address, mode_control_address}
use Rattle.r6501q_registers.specs.Addresses.{serial_control_address, serial_status_address, serial_data_address}
use Rattle.r6501q_registers.specs.Addresses.{lower_a_address, upper_a_address, start_a_address, lower_b_address}
use Rattle.r6501q_registers.specs.Addresses.{upper_b_address, start_b_address}
use Rattle.r6501q_registers.specs.Copies.{latched_b, latched_c, latched_d, with_ier, with_mcr, with_sccr}

-- 1Eh, "writing .. 1Eh sets the upper latch, loads the counter, clears the flag"
abbrev pub loaded_b : Peripherals → ℕ → Peripherals
loaded_b p v = flagged (with_counter_b p (load_counter_b (upper_b p.counterb v))) (with_bit 5 false p.control.ifr)

-- "in mode 01, .. 1Eh clears PA5's and makes the turn C (001, 6.2.2)"
unfoldable pub start_b : Peripherals → ℕ → Peripherals
start_b p v =
    cond (eqb (mode_b p.control.mcr) 1)
    (latched_a (with_counter_b (loaded_b p v) (turn_to_c (load_counter_b (upper_b p.counterb v))))
    (with_bit 5 false p.ports.a))
    (loaded_b p v)

-- 1Ah, "writing 1Ah .. sets the upper latch, loads the counter, clears the flag"; "in mode 01, 1Ah inverts PA4's latch"
unfoldable pub start_a : Peripherals → ℕ → Peripherals
start_a p v =
    latched_a (flagged (with_counter_a p (load_counter_a (upper_a p.countera v))) (with_bit 4 false p.control.ifr))
    (flip_where 4 (eqb (mode_in_force p.control) 1) p.ports.a)

-- 17h, "writing clears SCSR6, SCSR7"; 001, 5.3, SCSR 5: cleared "upon writing a new data word into the Transmitter
-- Data Register"
abbrev pub write_data : Peripherals → ℕ → Peripherals
write_data p v = with_sent (scsr_set p (with_bit 7 false (with_bit 6 false (with_bit 5 false p.control.scsr)))) v

-- 16h, "bits 4, 5 can be written"
abbrev pub write_scsr : Peripherals → ℕ → Peripherals
write_scsr p v = scsr_set p (with_bit 5 (bit 5 v) (with_bit 4 (bit 4 v) p.control.scsr))

-- 001, 6.1.2: "The CA output is initialized high when entering the mode": pulse mode is in force and was not before
unfoldable pub entering : Peripherals → Control → Peripherals
entering p c =
    latched_a (with_control p c)
    (set_where 4 (eqb (mode_in_force c) 1 && not (eqb (mode_in_force p.control) 1)) p.ports.a)

-- 01, Serial channel: "Writing SCCR zeroes the progress of each half that the new value has off or in shift-register
-- mode."; 02, U1: "A write of SCCR that changes a half's mode zeroes its progress too."
abbrev pub zeroed : Peripherals → ℕ → ℕ → Peripherals
zeroed p old sccr =
    with_progress p (transmitter_with_sccr old sccr p.transmitter) (receiver_with_sccr old sccr p.receiver)

-- 15h, the control register, and what a write of it does to counter A's mode and to the serial progress
abbrev pub write_sccr : Peripherals → ℕ → Peripherals
write_sccr p v = zeroed (entering p (with_sccr p.control v)) p.control.sccr v

-- 14h
abbrev pub write_mcr : Peripherals → ℕ → Peripherals
write_mcr p v = entering p (with_mcr p.control v)

-- 10h, "zeros written there clear IFR bits 0 to 3": a one keeps its bit
unfoldable pub kept_flag : ℕ → ℕ → ℕ → ℕ
kept_flag k v ifr = cond (bit k v) ifr (with_bit k false ifr)

unfoldable pub kept_flags : ℕ → ℕ → ℕ
kept_flags v ifr = kept_flag 3 v (kept_flag 2 v (kept_flag 1 v (kept_flag 0 v ifr)))

-- What a write of v leaves. 01: "write latches"; "1Dh copies latch B to C too"; Machine state, "unassigned registers
-- .. ignore writes".
unfoldable pub write_of : Peripherals → ℕ → ℕ → Peripherals
write_of p at v =
    cond (eqb at start_b_address) (start_b p v)  -- 1Eh
    (cond (eqb at upper_b_address) (with_counter_b p (copy_b (upper_b p.counterb v)))  -- 1Dh
    (cond (eqb at lower_b_address) (with_counter_b p (lower_b p.counterb v))  -- 1Ch
    (cond (eqb at start_a_address) (start_a p v)  -- 1Ah
    (cond (eqb at upper_a_address) (with_counter_a p (upper_a p.countera v))  -- 19h
    (cond (eqb at lower_a_address) (with_counter_a p (lower_a p.countera v))  -- 18h
    (cond (eqb at serial_data_address) (write_data p v)  -- 17h
    (cond (eqb at serial_status_address) (write_scsr p v)  -- 16h
    (cond (eqb at serial_control_address) (write_sccr p v)  -- 15h
    (cond (eqb at mode_control_address) (write_mcr p v)  -- 14h
    (cond (eqb at interrupt_enable_address) (with_control p (with_ier p.control v))  -- 12h
    (cond (eqb at flag_clear_address) (flagged p (kept_flags v p.control.ifr))  -- 10h
    (cond (eqb at port_d_address) (latched_d p v)  -- 03h
    (cond (eqb at port_c_address) (latched_c p v)  -- 02h
    (cond (eqb at port_b_address) (latched_b p v)  -- 01h
    (cond (eqb at port_a_address) (latched_a p v)  -- 00h
    p)))))))))))))))
