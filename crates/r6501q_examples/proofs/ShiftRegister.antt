-- Document 02, U1, of whole clocks as the chip makes them: a byte sent and a byte received in shift-register mode, each
-- register write by an instruction, each level by the pin list, each drive as it is recorded.
use Rattle.std.specs.Prelude.{None}
use mathlib.Core.Path.{◌≡◌, refl}
use mathlib.Core.Bool.{Bool, true, false}
use mathlib.Core.List.{List, [], ◌∷◌, ◌++◌}
use Prim.Native.Nat.{ℕ, zero, suc, ◌+◌}
use Rattle.bits.specs.Bits.{bit}
use Rattle.bits.specs.Lists.{tabulate}
use Rattle.bits.specs.Bits.{with_bit, set_where, flip_where}
use Rattle.pin_lists.specs.PinLists.{input_count}
use Rattle.counters.specs.Counters.{ticks_of, in_force, down_a, counts_a, clock_a, lower_a, upper_a, load_counter_a, reload_b}
use Rattle.counters.specs.Counters.{down_b, clock_b, lower_b, upper_b, copy_b, load_counter_b, turn_to_c}
use Rattle.serial_format.specs.Format.{transmitter_asynchronous, receiver_asynchronous, receiver_shifting, holds_a}
use Rattle.serial_format.specs.Format.{keeps_transmitter, keeps_receiver, parity_bit, frame_bits, pace}
use Rattle.serial_transmitter.specs.Transmitter.{sent_bits}
use Rattle.serial_receiver.specs.Receiver.{start_detected, with_level, received_byte, wrong_parity, scsr_after, kept_with}
use Rattle.serial_receiver.specs.Receiver.{frame_ended, look_taken, looked, receive_tick, shifted_at_rise, byte_ended, receive_rise}
use Rattle.serial_receiver.specs.Receiver.{receiver_clock, receiver_with_sccr}
use Rattle.serial_transmitter.specs.Transmitter.{framed, taken, idle_tick, frame_end, next_phase, ticked, bit_tick, send_tick}
use Rattle.serial_transmitter.specs.Transmitter.{transmitter_clock, line, shift_clock, transmitter_with_sccr}
use Rattle.cpu_opcodes.specs.Decode.{decode_of}
use Rattle.cpu_alu.specs.Status.{packed, unpacked, pushed}
use Rattle.cpu_access.specs.Halt.{is_written, halts}
use Rattle.cpu_access.proofs.Told.{told}
use Rattle.cpu_access.specs.Stack.{write_at}
use Rattle.cpu_access.specs.Bus.{memory_byte}
use Rattle.cpu_access.specs.Accesses.{byte_after, peripherals_read, peripherals_written, value_read, performed, in_order}
use Rattle.cpu_modes.specs.ModeAccesses.{located}
use Rattle.cpu_modes.specs.Modes.{displacement}
use Rattle.cpu_kinds.specs.Kinds.{with_read, changed_by, byte_to_store, branch_taken, bit_branch_taken, byte_to_push}
use Rattle.cpu_kinds.specs.Kinds.{with_pulled, with_register, with_flag}
use Rattle.cpu.specs.InstructionAccesses.{completion, store_at, modify_accesses, branch_on, bit_branch_accesses, jump_to}
use Rattle.cpu.specs.InstructionAccesses.{push_accesses}
use Rattle.cpu.specs.InstructionAccesses.{pull_accesses, return_accesses, interrupt_return_accesses, entry_accesses}
use Rattle.cpu.specs.InstructionAccesses.{break_accesses}
use Rattle.cpu.specs.InstructionAccesses.{jsr_accesses, operation_accesses, instruction_accesses, reset_accesses}
use Rattle.cpu.specs.InstructionAccesses.{interrupt_accesses}
use Rattle.r6501q_cpu.specs.Processor.{whole_instruction, irq_due, reset_start, nmi_start, irq_start, start_of, byte_put}
use Rattle.r6501q_cpu.specs.Processor.{processor_of}
use Rattle.r6501q_state.specs.Control.{flags_of, mode_a, mode_b}
use Rattle.r6501q_state.specs.Inputs.{with_input}
use Rattle.r6501q_state.specs.Pins.{drive_a, drive_d, driven_word, levels_of, rose, fell, edges, with_edges, reset_of}
use Rattle.r6501q_state.specs.Pins.{sensed_at, sensed}
use Rattle.r6501q_state.specs.State.{fresh}
use Rattle.r6501q_registers.specs.Read.{port_value, register_value, after_read}
use Rattle.r6501q_registers.specs.Write.{start_b, start_a, entering, kept_flag, kept_flags, write_of}
use Rattle.r6501q_clock.specs.Clock.{with_inputs, count_a, count_b, sent_by, heard_by, peripherals_clock, before_cpu, finished}
use Rattle.r6501q_clock.specs.Clock.{clock_of}
use Rattle.memory_writes.specs.Commit.{put_write, committed}
use Rattle.r6501q_state.specs.declared.state.Levels.{Levels}
use Rattle.r6501q_state.specs.declared.state.State.{State}
use Rattle.r6501q_state.specs.State.{fresh_cpu, fresh_ports, fresh_levels, fresh_peripherals}
use Rattle.r6501q_state.specs.Copies.{flagged, with_counter_a, with_counter_b, with_peripherals}
use Rattle.serial_transmitter.specs.Transmitter.{idle_transmitter}
use Rattle.r6501q_clock.specs.Clock.{inputs_set}
use Rattle.leaps.specs.Leaps.{events_in, quiet_end, plains, trace, leap_count}
use Rattle.leaps.specs.World.{put_record, plain_of, done_in, event_in}
use Rattle.r6501q_events.specs.Events.{has_input, same_levels, levels_change, underflows_a, underflows_b, ports_fresh}
use Rattle.r6501q_events.specs.Events.{control_fresh, transmitter_idle, receiver_idle, is_reset, reset_changes, cpu_starts}
use Rattle.r6501q_events.specs.Events.{puts_byte, event_of}
use Rattle.r6501q_chip.specs.R6501q.{World, plain, system}
use Rattle.r6501q_chip.proofs.Halted.{told_by, clock_in}
use lib.ListN.{replicate}
use Rattle.r6501q_examples.proofs.Examples.{start_with, after_reset}

-- LDA #00h, STA 18h, STA 1Ah, LDA #A0h, STA 15h, LDA #41h, STA 17h, whose byte is put on clock 18
abbrev pub shift_sender : List ℕ → List ℕ
shift_sender later =
    replicate 0x40 0
    ++ (0xA9 ∷ 0x00 ∷ 0x85 ∷ 0x18 ∷ 0x85 ∷ 0x1A ∷ 0xA9 ∷ 0xA0 ∷ 0x85 ∷ 0x15 ∷ 0xA9 ∷ 0x41 ∷ 0x85 ∷ 0x17 ∷ later)

abbrev pub shift_start : List ℕ → World
shift_start later = start_with (after_reset 0) (shift_sender later) [] [] (replicate 17 0) (replicate 17 0)

-- a jump to itself; STA 17h, put on clock 21, and a jump to itself; LDA #A0h, STA 15h, put on clock 23, and a jump to
-- itself
abbrev pub then_nothing : List ℕ
then_nothing = 0x4C ∷ 0x4E ∷ 0x00 ∷ []

abbrev pub then_another : List ℕ
then_another = 0x85 ∷ 0x17 ∷ 0x4C ∷ 0x50 ∷ 0x00 ∷ []

abbrev pub then_sccr_again : List ℕ
then_sccr_again = 0xA9 ∷ 0xA0 ∷ 0x85 ∷ 0x15 ∷ 0x4C ∷ 0x52 ∷ 0x00 ∷ []

-- port A as it is driven, all other pins high
abbrev pub driven_a : ℕ → ℕ
driven_a a = 0xFFFFFF00 + a

-- a receiver that is on and in shift-register mode, while the CPU jumps to itself
abbrev pub shift_receiver : State
shift_receiver = with_peripherals (after_reset 0) (record {
  ports = fresh_ports;
  countera = fresh_peripherals.countera;
  counterb = fresh_peripherals.counterb;
  control = record { ifr = 0; ier = 0; mcr = 0; sccr = 0x50; scsr = 0x40 };
  serial = fresh_peripherals.serial;
  transmitter = idle_transmitter;
  receiver = fresh_peripherals.receiver;
})

-- PA4 falls on each odd clock, with PA7's next level, and rises on each even one
abbrev pub clocked_at : List ℕ
clocked_at = 1 ∷ 1 ∷ 2 ∷ 3 ∷ 3 ∷ 4 ∷ 5 ∷ 5 ∷ 6 ∷ 7 ∷ 7 ∷ 8 ∷ 9 ∷ 9 ∷ 10 ∷ 11 ∷ 11 ∷ 12 ∷ 13 ∷ 13 ∷ 14 ∷ 15 ∷ 15 ∷ 16 ∷ []

abbrev pub clocked_with : List ℕ
clocked_with =
    4 ∷ 71 ∷ 68 ∷ 4 ∷ 7 ∷ 68 ∷ 4 ∷ 7 ∷ 68 ∷ 4 ∷ 7 ∷ 68 ∷ 4 ∷ 7 ∷ 68 ∷ 4 ∷ 7 ∷ 68 ∷ 4 ∷ 71 ∷ 68 ∷ 4 ∷ 7 ∷ 68 ∷ []

abbrev pub receiver_start : World
receiver_start = start_with shift_receiver (replicate 0x40 0 ++ (0x4C ∷ 0x40 ∷ 0x00 ∷ [])) clocked_at clocked_with [] []

pub record ShiftRegister : Type 0 where
  -- 41h put on clock 18 with SCCR A0h and latch 0: taken on 19, shifted on each second clock; PA4 is low and high
  -- for each bit; after clock 35 an under-run, both lines high
  pub sent_clocks : (plains (system None) 35 (shift_start then_nothing)).output_clocks ≡ tabulate (λ k. k) 17 19
  pub sent_words : (plains (system None) 35 (shift_start then_nothing)).output_words
      ≡ driven_a 0xEF ∷ driven_a 0xFF ∷ driven_a 0xAF ∷ driven_a 0xBF ∷ driven_a 0xAF ∷ driven_a 0xBF ∷ driven_a 0xAF
      ∷ driven_a 0xBF
      ∷ driven_a 0xAF ∷ driven_a 0xBF ∷ driven_a 0xAF ∷ driven_a 0xBF ∷ driven_a 0xEF ∷ driven_a 0xFF ∷ driven_a 0xAF
      ∷ driven_a 0xBF
      ∷ driven_a 0xFF ∷ []
  pub under_run : (plains (system None) 35 (shift_start then_nothing)).state.peripherals.control.scsr ≡ 0xC0
  -- "it takes the next data that tick": 17h written again meanwhile, PA4 is low and PA6 the next byte's first bit
  pub next_taken : (plains (system None) 35 (shift_start then_another)).state.peripherals.transmitter
      ≡ record { left = 8; phase = 0; register = 0x41 }
  pub next_driven : driven_word (plains (system None) 35 (shift_start then_another)).state.peripherals ≡ driven_a 0xEF
  -- SCCR written with the same A0h ends the byte: PA4 and PA6 go high
  pub sccr_again : (plains (system None) 23 (shift_start then_sccr_again)).state.peripherals.transmitter
      ≡ idle_transmitter
  pub sccr_driven : driven_word (plains (system None) 22 (shift_start then_sccr_again)).state.peripherals
      ≡ driven_a 0xBF
  pub sccr_high : driven_word (plains (system None) 23 (shift_start then_sccr_again)).state.peripherals ≡ driven_a 0xFF
  -- PA7 1, 0, 0, 0, 0, 0, 1, 0 at rises of PA4, SCCR 50h: 7 bits left and 400h after the first, 208h and the byte 41h
  -- at the last
  pub first_rise : (plains (system None) 2 receiver_start).state.peripherals.receiver
      ≡ record { subinterval = 0; half = false; left = 7; register = 0x400 }
  pub last_rise : (plains (system None) 16 receiver_start).state.peripherals.receiver
      ≡ record { subinterval = 0; half = false; left = 0; register = 0x208 }
  pub byte_received : (plains (system None) 16 receiver_start).state.peripherals.serial.received ≡ 0x41
  pub byte_full : (plains (system None) 16 receiver_start).state.peripherals.control.scsr ≡ 0x41

pub shift_register : ShiftRegister
unfolding with_bit set_where flip_where input_count ticks_of in_force down_a counts_a clock_a lower_a upper_a load_counter_a reload_b
    down_b clock_b lower_b upper_b copy_b load_counter_b turn_to_c transmitter_asynchronous receiver_asynchronous receiver_shifting
    holds_a keeps_transmitter keeps_receiver parity_bit frame_bits sent_bits pace start_detected with_level received_byte
    wrong_parity scsr_after kept_with frame_ended look_taken looked receive_tick shifted_at_rise byte_ended receive_rise
    receiver_clock receiver_with_sccr framed taken idle_tick frame_end next_phase ticked bit_tick send_tick transmitter_clock
    line shift_clock transmitter_with_sccr decode_of packed unpacked pushed memory_byte displacement flags_of mode_a mode_b
    with_input drive_a drive_d driven_word levels_of rose fell edges with_edges reset_of sensed_at sensed fresh port_value
    register_value after_read start_b start_a entering kept_flag kept_flags write_of whole_instruction irq_due reset_start
    nmi_start irq_start start_of byte_put processor_of with_inputs count_a count_b sent_by heard_by peripherals_clock before_cpu
    finished clock_of halts put_write committed plain_of plains put_record located byte_after peripherals_read
    peripherals_written value_read performed in_order completion store_at modify_accesses branch_on bit_branch_accesses jump_to
    push_accesses pull_accesses return_accesses interrupt_return_accesses entry_accesses break_accesses jsr_accesses
    operation_accesses with_read changed_by byte_to_store branch_taken bit_branch_taken byte_to_push with_pulled with_register
    with_flag instruction_accesses reset_accesses interrupt_accesses
shift_register = record {
  sent_clocks = refl;
  sent_words = refl;
  under_run = refl;
  next_taken = refl;
  next_driven = refl;
  sccr_again = refl;
  sccr_driven = refl;
  sccr_high = refl;
  first_rise = refl;
  last_rise = refl;
  byte_received = refl;
  byte_full = refl;
}
