-- Document 02, U5, of a whole clock: JMP (02FFh) takes the low byte of its target from 02FFh and the high byte from
-- 0200h.
use Rattle.std.specs.Prelude.{None}
use mathlib.Core.Path.{◌≡◌, refl}
use mathlib.Core.Bool.{Bool, true, false}
use mathlib.Core.List.{List, [], ◌∷◌, ◌++◌}
use Prim.Native.Nat.{ℕ, zero, suc, ◌+◌}
use Rattle.bits.specs.Bits.{bit}
use Rattle.bits.specs.Lists.{tabulate}
use Rattle.bits.specs.Bits.{with_bit, set_where, flip_where}
use Rattle.pin_lists.specs.PinLists.{input_count}
use Rattle.counters.specs.Counters.{ticks_of, in_force, down_a, counts_a, clock_a, lower_a, upper_a, load_counter_a, reload_b}
use Rattle.counters.specs.Counters.{down_b, clock_b, lower_b, upper_b, copy_b, load_counter_b, turn_to_c}
use Rattle.serial_format.specs.Format.{transmitter_asynchronous, receiver_asynchronous, receiver_shifting, holds_a}
use Rattle.serial_format.specs.Format.{keeps_transmitter, keeps_receiver, parity_bit, frame_bits, pace}
use Rattle.serial_transmitter.specs.Transmitter.{sent_bits}
use Rattle.serial_receiver.specs.Receiver.{start_detected, with_level, received_byte, wrong_parity, scsr_after, kept_with}
use Rattle.serial_receiver.specs.Receiver.{frame_ended, look_taken, looked, receive_tick, shifted_at_rise, byte_ended, receive_rise}
use Rattle.serial_receiver.specs.Receiver.{receiver_clock, receiver_with_sccr}
use Rattle.serial_transmitter.specs.Transmitter.{framed, taken, idle_tick, frame_end, next_phase, ticked, bit_tick, send_tick}
use Rattle.serial_transmitter.specs.Transmitter.{transmitter_clock, line, shift_clock, transmitter_with_sccr}
use Rattle.cpu_opcodes.specs.Decode.{decode_of}
use Rattle.cpu_alu.specs.Status.{packed, unpacked, pushed}
use Rattle.cpu_access.specs.Halt.{is_written, halts}
use Rattle.cpu_access.proofs.Told.{told}
use Rattle.cpu_access.specs.Stack.{write_at}
use Rattle.cpu_access.specs.Bus.{memory_byte}
use Rattle.cpu_access.specs.Accesses.{byte_after, peripherals_read, peripherals_written, value_read, performed, in_order}
use Rattle.cpu_modes.specs.ModeAccesses.{located}
use Rattle.cpu_modes.specs.Modes.{displacement}
use Rattle.cpu_kinds.specs.Kinds.{with_read, changed_by, byte_to_store, branch_taken, bit_branch_taken, byte_to_push}
use Rattle.cpu_kinds.specs.Kinds.{with_pulled, with_register, with_flag}
use Rattle.cpu.specs.InstructionAccesses.{completion, store_at, modify_accesses, branch_on, bit_branch_accesses, jump_to}
use Rattle.cpu.specs.InstructionAccesses.{push_accesses}
use Rattle.cpu.specs.InstructionAccesses.{pull_accesses, return_accesses, interrupt_return_accesses, entry_accesses}
use Rattle.cpu.specs.InstructionAccesses.{break_accesses}
use Rattle.cpu.specs.InstructionAccesses.{jsr_accesses, operation_accesses, instruction_accesses, reset_accesses}
use Rattle.cpu.specs.InstructionAccesses.{interrupt_accesses}
use Rattle.r6501q_cpu.specs.Processor.{whole_instruction, irq_due, reset_start, nmi_start, irq_start, start_of, byte_put}
use Rattle.r6501q_cpu.specs.Processor.{processor_of}
use Rattle.r6501q_state.specs.Control.{flags_of, mode_a, mode_b}
use Rattle.r6501q_state.specs.Inputs.{with_input}
use Rattle.r6501q_state.specs.Pins.{drive_a, drive_d, driven_word, levels_of, rose, fell, edges, with_edges, reset_of}
use Rattle.r6501q_state.specs.Pins.{sensed_at, sensed}
use Rattle.r6501q_state.specs.State.{fresh}
use Rattle.r6501q_registers.specs.Read.{port_value, register_value, after_read}
use Rattle.r6501q_registers.specs.Write.{start_b, start_a, entering, kept_flag, kept_flags, write_of}
use Rattle.r6501q_clock.specs.Clock.{with_inputs, count_a, count_b, sent_by, heard_by, peripherals_clock, before_cpu, finished}
use Rattle.r6501q_clock.specs.Clock.{clock_of}
use Rattle.memory_writes.specs.Commit.{put_write, committed}
use Rattle.r6501q_state.specs.declared.state.Levels.{Levels}
use Rattle.r6501q_state.specs.declared.state.State.{State}
use Rattle.r6501q_state.specs.State.{fresh_cpu, fresh_ports, fresh_levels, fresh_peripherals}
use Rattle.r6501q_state.specs.Copies.{flagged, with_counter_a, with_counter_b, with_peripherals}
use Rattle.serial_transmitter.specs.Transmitter.{idle_transmitter}
use Rattle.r6501q_clock.specs.Clock.{inputs_set}
use Rattle.leaps.specs.Leaps.{events_in, quiet_end, plains, trace, leap_count}
use Rattle.leaps.specs.World.{put_record, plain_of, done_in, event_in}
use Rattle.r6501q_events.specs.Events.{has_input, same_levels, levels_change, underflows_a, underflows_b, ports_fresh}
use Rattle.r6501q_events.specs.Events.{control_fresh, transmitter_idle, receiver_idle, is_reset, reset_changes, cpu_starts}
use Rattle.r6501q_events.specs.Events.{puts_byte, event_of}
use Rattle.r6501q_chip.specs.R6501q.{World, plain, system}
use Rattle.r6501q_chip.proofs.Halted.{told_by, clock_in}
use lib.ListN.{replicate}
use Rattle.bits.specs.Bits.{word16}
use Rattle.r6501q_examples.proofs.Examples.{start_with, after_reset}

-- JMP (02FFh) at 0040h; the bytes at 0200h, at 02FFh, and at 0300h in the next page
abbrev pub jump_memory : ℕ → ℕ → ℕ → List ℕ
jump_memory first last next =
    replicate 0x40 0 ++ (0x6C ∷ 0xFF ∷ 0x02 ∷ []) ++ replicate 0x1BD 0 ++ (first ∷ []) ++ replicate 0xFE 0
    ++ (last ∷ next ∷ [])

pub indirect_jump : (first last next : ℕ)
    → (plains (system None) 1 (start_with (after_reset 0) (jump_memory first last next) [] [] [] [])).state.cpu
    ≡ record { a = 0; x = 0; y = 0; sp = 0xFF; p = 0x04; pc = word16 first last; wait = 4; waiting = None }
unfolding with_bit set_where flip_where input_count ticks_of in_force down_a counts_a clock_a lower_a upper_a load_counter_a reload_b
    down_b clock_b lower_b upper_b copy_b load_counter_b turn_to_c transmitter_asynchronous receiver_asynchronous receiver_shifting
    holds_a keeps_transmitter keeps_receiver parity_bit frame_bits sent_bits pace start_detected with_level received_byte
    wrong_parity scsr_after kept_with frame_ended look_taken looked receive_tick shifted_at_rise byte_ended receive_rise
    receiver_clock receiver_with_sccr framed taken idle_tick frame_end next_phase ticked bit_tick send_tick transmitter_clock
    line shift_clock transmitter_with_sccr decode_of packed unpacked pushed memory_byte displacement flags_of mode_a mode_b
    with_input drive_a drive_d driven_word levels_of rose fell edges with_edges reset_of sensed_at sensed fresh port_value
    register_value after_read start_b start_a entering kept_flag kept_flags write_of whole_instruction irq_due reset_start
    nmi_start irq_start start_of byte_put processor_of with_inputs count_a count_b sent_by heard_by peripherals_clock before_cpu
    finished clock_of halts put_write committed plain_of plains put_record located byte_after peripherals_read
    peripherals_written value_read performed in_order completion store_at modify_accesses branch_on bit_branch_accesses jump_to
    push_accesses pull_accesses return_accesses interrupt_return_accesses entry_accesses break_accesses jsr_accesses
    operation_accesses with_read changed_by byte_to_store branch_taken bit_branch_taken byte_to_push with_pulled with_register
    with_flag instruction_accesses reset_accesses interrupt_accesses
indirect_jump first last next = refl
