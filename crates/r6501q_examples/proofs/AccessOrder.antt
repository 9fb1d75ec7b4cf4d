-- The order of an instruction's accesses (01, One clock, 4; the Programming Manual's cycles), of whole clocks.
use Rattle.std.specs.Prelude.{None}
use mathlib.Core.Path.{◌≡◌, refl}
use mathlib.Core.Bool.{Bool, true, false}
use mathlib.Core.List.{List, [], ◌∷◌, ◌++◌}
use Prim.Native.Nat.{ℕ, zero, suc, ◌+◌}
use Rattle.bits.specs.Bits.{bit}
use Rattle.bits.specs.Lists.{tabulate}
use Rattle.bits.specs.Bits.{with_bit, set_where, flip_where}
use Rattle.pin_lists.specs.PinLists.{input_count}
use Rattle.counters.specs.Counters.{ticks_of, in_force, down_a, counts_a, clock_a, lower_a, upper_a, load_counter_a, reload_b}
use Rattle.counters.specs.Counters.{down_b, clock_b, lower_b, upper_b, copy_b, load_counter_b, turn_to_c}
use Rattle.serial_format.specs.Format.{transmitter_asynchronous, receiver_asynchronous, receiver_shifting, holds_a}
use Rattle.serial_format.specs.Format.{keeps_transmitter, keeps_receiver, parity_bit, frame_bits, pace}
use Rattle.serial_transmitter.specs.Transmitter.{sent_bits}
use Rattle.serial_receiver.specs.Receiver.{start_detected, with_level, received_byte, wrong_parity, scsr_after, kept_with}
use Rattle.serial_receiver.specs.Receiver.{frame_ended, look_taken, looked, receive_tick, shifted_at_rise, byte_ended, receive_rise}
use Rattle.serial_receiver.specs.Receiver.{receiver_clock, receiver_with_sccr}
use Rattle.serial_transmitter.specs.Transmitter.{framed, taken, idle_tick, frame_end, next_phase, ticked, bit_tick, send_tick}
use Rattle.serial_transmitter.specs.Transmitter.{transmitter_clock, line, shift_clock, transmitter_with_sccr}
use Rattle.cpu_opcodes.specs.Decode.{decode_of}
use Rattle.cpu_alu.specs.Status.{packed, unpacked, pushed}
use Rattle.cpu_access.specs.Halt.{is_written, halts}
use Rattle.cpu_access.proofs.Told.{told}
use Rattle.cpu_access.specs.Stack.{write_at}
use Rattle.cpu_access.specs.Bus.{memory_byte}
use Rattle.cpu_access.specs.Accesses.{byte_after, peripherals_read, peripherals_written, value_read, performed, in_order}
use Rattle.cpu_modes.specs.ModeAccesses.{located}
use Rattle.cpu_modes.specs.Modes.{displacement}
use Rattle.cpu_kinds.specs.Kinds.{with_read, changed_by, byte_to_store, branch_taken, bit_branch_taken, byte_to_push}
use Rattle.cpu_kinds.specs.Kinds.{with_pulled, with_register, with_flag}
use Rattle.cpu.specs.InstructionAccesses.{completion, store_at, modify_accesses, branch_on, bit_branch_accesses, jump_to}
use Rattle.cpu.specs.InstructionAccesses.{push_accesses}
use Rattle.cpu.specs.InstructionAccesses.{pull_accesses, return_accesses, interrupt_return_accesses, entry_accesses}
use Rattle.cpu.specs.InstructionAccesses.{break_accesses}
use Rattle.cpu.specs.InstructionAccesses.{jsr_accesses, operation_accesses, instruction_accesses, reset_accesses}
use Rattle.cpu.specs.InstructionAccesses.{interrupt_accesses}
use Rattle.r6501q_cpu.specs.Processor.{whole_instruction, irq_due, reset_start, nmi_start, irq_start, start_of, byte_put}
use Rattle.r6501q_cpu.specs.Processor.{processor_of}
use Rattle.r6501q_state.specs.Control.{flags_of, mode_a, mode_b}
use Rattle.r6501q_state.specs.Inputs.{with_input}
use Rattle.r6501q_state.specs.Pins.{drive_a, drive_d, driven_word, levels_of, rose, fell, edges, with_edges, reset_of}
use Rattle.r6501q_state.specs.Pins.{sensed_at, sensed}
use Rattle.r6501q_state.specs.State.{fresh}
use Rattle.r6501q_registers.specs.Read.{port_value, register_value, after_read}
use Rattle.r6501q_registers.specs.Write.{start_b, start_a, entering, kept_flag, kept_flags, write_of}
use Rattle.r6501q_clock.specs.Clock.{with_inputs, count_a, count_b, sent_by, heard_by, peripherals_clock, before_cpu, finished}
use Rattle.r6501q_clock.specs.Clock.{clock_of}
use Rattle.memory_writes.specs.Commit.{put_write, committed}
use Rattle.r6501q_state.specs.declared.state.Levels.{Levels}
use Rattle.r6501q_state.specs.declared.state.State.{State}
use Rattle.r6501q_state.specs.State.{fresh_cpu, fresh_ports, fresh_levels, fresh_peripherals}
use Rattle.r6501q_state.specs.Copies.{flagged, with_counter_a, with_counter_b, with_peripherals}
use Rattle.serial_transmitter.specs.Transmitter.{idle_transmitter}
use Rattle.r6501q_clock.specs.Clock.{inputs_set}
use Rattle.leaps.specs.Leaps.{events_in, quiet_end, plains, trace, leap_count}
use Rattle.leaps.specs.World.{put_record, plain_of, done_in, event_in}
use Rattle.r6501q_events.specs.Events.{has_input, same_levels, levels_change, underflows_a, underflows_b, ports_fresh}
use Rattle.r6501q_events.specs.Events.{control_fresh, transmitter_idle, receiver_idle, is_reset, reset_changes, cpu_starts}
use Rattle.r6501q_events.specs.Events.{puts_byte, event_of}
use Rattle.r6501q_chip.specs.R6501q.{World, plain, system}
use Rattle.r6501q_chip.proofs.Halted.{told_by, clock_in}
use lib.ListN.{replicate}
use Rattle.cpu_alu.specs.Shift.{increment_of, set_bit_of}
use Rattle.bits.specs.Bits.{word16}
use Rattle.r6501q_examples.proofs.Examples.{start_with}

-- SP, P, the interrupt flags and enables, and the external levels of the ports; PC 0040h, nothing due, no wait
abbrev pub ready_at : ℕ → ℕ → ℕ → ℕ → ℕ → State
ready_at sp p ifr ier ports = record {
  cpu = record { a = 0; x = 0; y = 0; sp = sp; p = p; pc = 0x40; wait = 0; waiting = None };
  due = record { reset = false; nmi = false };
  peripherals = record {
    ports = fresh_ports;
    countera = fresh_peripherals.countera;
    counterb = fresh_peripherals.counterb;
    control = record { ifr = ifr; ier = ier; mcr = 0; sccr = 0; scsr = 0x40 };
    serial = fresh_peripherals.serial;
    transmitter = idle_transmitter;
    receiver = fresh_peripherals.receiver;
  };
  external = record { ports = ports; nmi = true; res = true };
  last = record { ports = ports; nmi = true; res = true };
  clock = 0;
}

abbrev pub start_at : State → List ℕ → World
start_at s program = start_with s (replicate 0x40 0 ++ program) [] [] (0 ∷ []) (0 ∷ [])

-- counter A in mode 01 with this count, PC 0040h
abbrev pub pulsing : ℕ → State
pulsing count = with_peripherals (ready_at 0xFF 0 0 0 0xFFFFFFFF) (record {
  ports = fresh_ports;
  countera = record { count = count; latch = 0xFFFF };
  counterb = fresh_peripherals.counterb;
  control = record { ifr = 0; ier = 0; mcr = 0x01; sccr = 0; scsr = 0x40 };
  serial = fresh_peripherals.serial;
  transmitter = idle_transmitter;
  receiver = fresh_peripherals.receiver;
})

-- SMB0 00h from clock 1; counter A underflows on clock 3
abbrev pub over_underflow : World
over_underflow = start_with (pulsing 2) (replicate 0x40 0 ++ (0x87 ∷ 0x00 ∷ [])) [] [] (0 ∷ 0 ∷ []) (0 ∷ 0 ∷ [])

pub record AccessOrder : Type 0 where
  -- 02, U6, SMB0 00h: on clock 3 counter A inverts bit 4 of port A's latch; the put on clock 5 writes the byte that was
  -- worked out on clock 1, bit 4 as it was then
  pub underflow_between : (plains (system None) 3 over_underflow).state.peripherals.ports.a ≡ 0xEF
  pub byte_of_first_clock : (plains (system None) 5 over_underflow).state.peripherals.ports.a ≡ 0xFF
  -- JSR with SP at its own last byte: the high byte of the target is the one that was just pushed
  pub call_over_itself : (l h : ℕ)
      → (plains (system None) 1 (start_at (ready_at 0x42 0 0 0 0xFFFFFFFF) (0x20 ∷ l ∷ h ∷ []))).state.cpu.pc
      ≡ word16 0x00 l
  -- INC 00h with PA0 held low from outside: the latch FFh is read, not the levels FEh; its byte is put on clock 5
  pub modify_by_latch : (plains (system None) 5
      (start_at (ready_at 0xFF 0 0 0 0xFFFFFFFE) (0xE6 ∷ 0x00 ∷ []))).state.peripherals.ports.a ≡ 0x00
  -- LDA 00h there: step 1's levels
  pub read_by_levels : (plains (system None) 1
      (start_at (ready_at 0xFF 0 0 0 0xFFFFFFFE) (0xA5 ∷ 0x00 ∷ []))).state.cpu.a ≡ 0xFE
  -- an IRQ entry pushes PC high, PC low, P with bit 5 and not bit 4
  pub entry_pushes_lem : told (told_by (clock_in (start_at (ready_at 0xFF 0x01 0x01 0x01 0xFFFFFFFF) [])))
      ≡ write_at 0x00FF 0x00 ∷ write_at 0x00FE 0x40 ∷ write_at 0x00FD 0x21 ∷ []
  -- RTI pulls P, then PC, low byte first
  pub return_pulls : (plains (system None) 1
      (start_at (ready_at 0x42 0 0 0 0xFFFFFFFF) (0x40 ∷ 0 ∷ 0 ∷ 0xC3 ∷ 0x34 ∷ 0x12 ∷ []))).state.cpu
      ≡ record { a = 0; x = 0; y = 0; sp = 0x45; p = 0xC3; pc = 0x1234; wait = 5; waiting = None }

pub access_order : AccessOrder
unfolding with_bit set_where flip_where input_count ticks_of in_force down_a counts_a clock_a lower_a upper_a load_counter_a reload_b
    down_b clock_b lower_b upper_b copy_b load_counter_b turn_to_c transmitter_asynchronous receiver_asynchronous receiver_shifting
    holds_a keeps_transmitter keeps_receiver parity_bit frame_bits sent_bits pace start_detected with_level received_byte
    wrong_parity scsr_after kept_with frame_ended look_taken looked receive_tick shifted_at_rise byte_ended receive_rise
    receiver_clock receiver_with_sccr framed taken idle_tick frame_end next_phase ticked bit_tick send_tick transmitter_clock
    line shift_clock transmitter_with_sccr decode_of packed unpacked pushed memory_byte displacement flags_of mode_a mode_b
    with_input drive_a drive_d driven_word levels_of rose fell edges with_edges reset_of sensed_at sensed fresh port_value
    register_value after_read start_b start_a entering kept_flag kept_flags write_of whole_instruction irq_due reset_start
    nmi_start irq_start start_of byte_put processor_of with_inputs count_a count_b sent_by heard_by peripherals_clock before_cpu
    finished clock_of is_written halts put_write committed plain_of plains put_record located byte_after peripherals_read
    peripherals_written value_read performed in_order completion store_at modify_accesses branch_on bit_branch_accesses jump_to
    push_accesses pull_accesses return_accesses interrupt_return_accesses entry_accesses break_accesses jsr_accesses
    operation_accesses with_read changed_by byte_to_store branch_taken bit_branch_taken byte_to_push with_pulled with_register
    with_flag instruction_accesses reset_accesses interrupt_accesses increment_of set_bit_of
access_order = record {
  underflow_between = refl;
  byte_of_first_clock = refl;
  call_over_itself = λ l h. refl;
  modify_by_latch = refl;
  read_by_levels = refl;
  entry_pushes_lem = refl;
  return_pulls = refl;
}
