-- P1, P2, P5 and P6 of document 01, of whole clocks as the chip makes them: steps 1 to 5, and where a register is
-- written, by an instruction.
use Rattle.std.specs.Prelude.{None, Some}
use mathlib.Core.Path.{◌≡◌, refl}
use mathlib.Core.Bool.{Bool, true, false}
use mathlib.Core.List.{List, [], ◌∷◌, ◌++◌}
use Prim.Native.Nat.{ℕ, zero, suc, ◌+◌}
use native.Mathlib.Omega.{arith}
use lib.ListN.{replicate}
use Rattle.bits.specs.Bits.{bit}
use Rattle.bits.specs.Lists.{tabulate}
use Rattle.bits.specs.Bits.{with_bit, set_where, flip_where}
use Rattle.pin_lists.specs.PinLists.{input_count}
use Rattle.counters.specs.Counters.{ticks_of, in_force, down_a, counts_a, clock_a, lower_a, upper_a, load_counter_a, reload_b}
use Rattle.counters.specs.Counters.{down_b, clock_b, lower_b, upper_b, copy_b, load_counter_b, turn_to_c}
use Rattle.serial_format.specs.Format.{transmitter_asynchronous, receiver_asynchronous, receiver_shifting, holds_a}
use Rattle.serial_format.specs.Format.{keeps_transmitter, keeps_receiver, parity_bit, frame_bits, pace}
use Rattle.serial_transmitter.specs.Transmitter.{sent_bits}
use Rattle.serial_receiver.specs.Receiver.{start_detected, with_level, received_byte, wrong_parity, scsr_after, kept_with}
use Rattle.serial_receiver.specs.Receiver.{frame_ended, look_taken, looked, receive_tick, shifted_at_rise, byte_ended, receive_rise}
use Rattle.serial_receiver.specs.Receiver.{receiver_clock, receiver_with_sccr}
use Rattle.serial_transmitter.specs.Transmitter.{framed, taken, idle_tick, frame_end, next_phase, ticked, bit_tick, send_tick}
use Rattle.serial_transmitter.specs.Transmitter.{transmitter_clock, line, shift_clock, transmitter_with_sccr}
use Rattle.cpu_opcodes.specs.Decode.{decode_of}
use Rattle.cpu_alu.specs.Status.{packed, unpacked, pushed}
use Rattle.cpu_access.specs.Halt.{is_written, halts}
use Rattle.cpu_access.proofs.Told.{told}
use Rattle.cpu_access.specs.Stack.{write_at}
use Rattle.cpu_access.specs.Bus.{memory_byte}
use Rattle.cpu_access.specs.Accesses.{byte_after, peripherals_read, peripherals_written, value_read, performed, in_order}
use Rattle.cpu_modes.specs.ModeAccesses.{located}
use Rattle.cpu_modes.specs.Modes.{displacement}
use Rattle.cpu_kinds.specs.Kinds.{with_read, changed_by, byte_to_store, branch_taken, bit_branch_taken, byte_to_push}
use Rattle.cpu_kinds.specs.Kinds.{with_pulled, with_register, with_flag}
use Rattle.cpu.specs.InstructionAccesses.{completion, store_at, modify_accesses, branch_on, bit_branch_accesses, jump_to}
use Rattle.cpu.specs.InstructionAccesses.{push_accesses}
use Rattle.cpu.specs.InstructionAccesses.{pull_accesses, return_accesses, interrupt_return_accesses, entry_accesses}
use Rattle.cpu.specs.InstructionAccesses.{break_accesses}
use Rattle.cpu.specs.InstructionAccesses.{jsr_accesses, operation_accesses, instruction_accesses, reset_accesses}
use Rattle.cpu.specs.InstructionAccesses.{interrupt_accesses}
use Rattle.r6501q_cpu.specs.Processor.{whole_instruction, irq_due, reset_start, nmi_start, irq_start, start_of, byte_put}
use Rattle.r6501q_cpu.specs.Processor.{processor_of}
use Rattle.r6501q_state.specs.Control.{flags_of, mode_a, mode_b}
use Rattle.r6501q_state.specs.Inputs.{res_high, with_input}
use Rattle.r6501q_state.specs.Pins.{drive_a, drive_d, driven_word, levels_of, rose, fell, edges, with_edges, reset_of}
use Rattle.r6501q_state.specs.Pins.{sensed_at, sensed}
use Rattle.r6501q_state.specs.State.{fresh}
use Rattle.r6501q_registers.specs.Read.{port_value, register_value, after_read}
use Rattle.r6501q_registers.specs.Write.{start_b, start_a, entering, kept_flag, kept_flags, write_of}
use Rattle.r6501q_clock.specs.Clock.{with_inputs, count_a, count_b, sent_by, heard_by, peripherals_clock, before_cpu, finished}
use Rattle.r6501q_clock.specs.Clock.{clock_of}
use Rattle.memory_writes.specs.Commit.{put_write, committed}
use Rattle.r6501q_state.specs.declared.state.Levels.{Levels}
use Rattle.r6501q_state.specs.declared.state.State.{State}
use Rattle.r6501q_state.specs.State.{fresh_cpu, fresh_ports, fresh_levels, high_levels, fresh_peripherals}
use Rattle.r6501q_state.specs.Copies.{flagged, with_counter_a, with_counter_b, with_peripherals}
use Rattle.serial_transmitter.specs.Transmitter.{idle_transmitter}
use Rattle.r6501q_clock.specs.Clock.{inputs_set}
use Rattle.leaps.specs.Leaps.{events_in, quiet_end, plains, trace, leap_count}
use Rattle.leaps.specs.World.{put_record, plain_of, done_in, event_in}
use Rattle.r6501q_events.specs.Events.{has_input, same_levels, levels_change, underflows_a, underflows_b, ports_fresh}
use Rattle.r6501q_events.specs.Events.{control_fresh, transmitter_idle, receiver_idle, is_reset, reset_changes, cpu_starts}
use Rattle.r6501q_events.specs.Events.{puts_byte, event_of}
use Rattle.r6501q_chip.specs.R6501q.{World, plain, system}
use Rattle.r6501q_chip.proofs.Halted.{told_by, clock_in}

-- a world at a call's start
abbrev pub start_with : State → List ℕ → List ℕ → List ℕ → List ℕ → List ℕ → World
start_with s memory input_clocks input_codes output_clocks output_words = record {
  state = s;
  memory = memory;
  input_clocks = input_clocks;
  input_codes = input_codes;
  output_clocks = output_clocks;
  output_words = output_words;
  read = 0;
  written = 0;
  stop = 0;
}

-- ---- P1, "L = 0: underflow each clock.": counters count while RES is low too, and there step 1 clears the flags on
-- each clock

-- both counters and their latches 0, the flags as given
abbrev pub held_low : ℕ → ℕ → State
held_low ifr clock = record {
  cpu = fresh_cpu;
  due = record { reset = true; nmi = false };
  peripherals =
      with_counter_b (with_counter_a (flagged fresh_peripherals ifr) (record { count = 0; latch = 0 }))
      (record { count = 0; latchb = 0; latchc = 0; turnc = true });
  external = fresh_levels;
  last = fresh_levels;
  clock = clock;
}

pub p1_cleared : (clock : ℕ) → sensed (inputs_set (held_low 0x30 clock) []) ≡ held_low 0 (clock + 1)
unfolding with_bit set_where flip_where input_count ticks_of in_force down_a counts_a clock_a lower_a upper_a load_counter_a reload_b
    down_b clock_b lower_b upper_b copy_b load_counter_b turn_to_c transmitter_asynchronous receiver_asynchronous receiver_shifting
    holds_a keeps_transmitter keeps_receiver parity_bit frame_bits sent_bits pace start_detected with_level received_byte
    wrong_parity scsr_after kept_with frame_ended look_taken looked receive_tick shifted_at_rise byte_ended receive_rise
    receiver_clock receiver_with_sccr framed taken idle_tick frame_end next_phase ticked bit_tick send_tick transmitter_clock
    line shift_clock transmitter_with_sccr flags_of mode_a mode_b with_input drive_a drive_d driven_word levels_of rose fell edges
    with_edges reset_of sensed_at sensed fresh with_inputs count_a count_b sent_by heard_by peripherals_clock before_cpu finished
    clock_of halts put_write committed byte_put processor_of plain_of plains put_record
p1_cleared clock = refl

pub p1_clock : (clock : ℕ) (memory times words : List ℕ)
    → plain None (start_with (held_low 0x30 clock) memory [] [] times words)
    ≡ start_with (held_low 0x30 (clock + 1)) memory [] [] times words
unfolding with_bit set_where flip_where input_count ticks_of in_force down_a counts_a clock_a lower_a upper_a load_counter_a reload_b
    down_b clock_b lower_b upper_b copy_b load_counter_b turn_to_c transmitter_asynchronous receiver_asynchronous receiver_shifting
    holds_a keeps_transmitter keeps_receiver parity_bit frame_bits sent_bits pace start_detected with_level received_byte
    wrong_parity scsr_after kept_with frame_ended look_taken looked receive_tick shifted_at_rise byte_ended receive_rise
    receiver_clock receiver_with_sccr framed taken idle_tick frame_end next_phase ticked bit_tick send_tick transmitter_clock
    line shift_clock transmitter_with_sccr flags_of mode_a mode_b with_input drive_a drive_d driven_word levels_of rose fell edges
    with_edges reset_of sensed_at sensed fresh with_inputs count_a count_b sent_by heard_by peripherals_clock before_cpu finished
    clock_of halts put_write committed byte_put processor_of plain_of plains put_record
p1_clock clock memory times words = refl

pub p1_clocks : (n clock : ℕ) (memory times words : List ℕ)
    → plains (system None) n (start_with (held_low 0x30 clock) memory [] [] times words)
    ≡ start_with (held_low 0x30 (clock + n)) memory [] [] times words
unfolding plains
p1_clocks zero clock memory times words = let e : clock + 0 ≡ clock = omega arith in rw e
p1_clocks (suc n) clock memory times words =
    let e : clock + suc n ≡ clock + 1 + n = omega arith in
    rw (p1_clock clock memory times words, e) (p1_clocks n (clock + 1) memory times words)

-- ---- P2, "L = 5 loaded on clock t: underflow on t + 6.": by STA 1Ah, which starts on clock 8 and puts its byte on
-- clock 10 (02, U6)

abbrev pub after_reset : ℕ → State
after_reset wait = record {
  cpu = record { a = 0; x = 0; y = 0; sp = 0xFF; p = 0x04; pc = 0x40; wait = wait; waiting = None };
  due = record { reset = false; nmi = false };
  peripherals = fresh_peripherals;
  external = high_levels;
  last = high_levels;
  clock = 0;
}

-- LDA #05h, STA lower, LDA #00h, STA start, and a jump to itself: 18h and 1Ah of counter A, 1Ch and 1Eh of counter B
abbrev pub timer_program : ℕ → ℕ → List ℕ
timer_program lower start =
    replicate 0x40 0 ++ (0xA9 ∷ 0x05 ∷ 0x85 ∷ lower ∷ 0xA9 ∷ 0x00 ∷ 0x85 ∷ start ∷ 0x4C ∷ 0x48 ∷ 0x00 ∷ [])

abbrev pub timer_start : ℕ → ℕ → World
timer_start lower start = start_with (after_reset 0) (timer_program lower start) [] [] [] []

pub p2_loaded : (plains (system None) 10 (timer_start 0x18 0x1A)).state.peripherals.countera
    ≡ record { count = 5; latch = 5 }
unfolding with_bit set_where flip_where input_count ticks_of in_force down_a counts_a clock_a lower_a upper_a load_counter_a reload_b
    down_b clock_b lower_b upper_b copy_b load_counter_b turn_to_c transmitter_asynchronous receiver_asynchronous receiver_shifting
    holds_a keeps_transmitter keeps_receiver parity_bit frame_bits sent_bits pace start_detected with_level received_byte
    wrong_parity scsr_after kept_with frame_ended look_taken looked receive_tick shifted_at_rise byte_ended receive_rise
    receiver_clock receiver_with_sccr framed taken idle_tick frame_end next_phase ticked bit_tick send_tick transmitter_clock
    line shift_clock transmitter_with_sccr decode_of packed unpacked pushed memory_byte displacement flags_of mode_a mode_b
    with_input drive_a drive_d driven_word levels_of rose fell edges with_edges reset_of sensed_at sensed fresh port_value
    register_value after_read start_b start_a entering kept_flag kept_flags write_of whole_instruction irq_due reset_start
    nmi_start irq_start start_of byte_put processor_of with_inputs count_a count_b sent_by heard_by peripherals_clock before_cpu
    finished clock_of halts put_write committed plain_of plains put_record located byte_after peripherals_read
    peripherals_written value_read performed in_order completion store_at modify_accesses branch_on bit_branch_accesses jump_to
    push_accesses pull_accesses return_accesses interrupt_return_accesses entry_accesses break_accesses jsr_accesses
    operation_accesses with_read changed_by byte_to_store branch_taken bit_branch_taken byte_to_push with_pulled with_register
    with_flag instruction_accesses reset_accesses interrupt_accesses
p2_loaded = refl

pub p2_clocks : tabulate
    (λ k. bit 4 (plains (system None) k (timer_start 0x18 0x1A)).state.peripherals.control.ifr)
    7 10
    ≡ false ∷ false ∷ false ∷ false ∷ false ∷ false ∷ true ∷ []
unfolding with_bit set_where flip_where input_count ticks_of in_force down_a counts_a clock_a lower_a upper_a load_counter_a reload_b
    down_b clock_b lower_b upper_b copy_b load_counter_b turn_to_c transmitter_asynchronous receiver_asynchronous receiver_shifting
    holds_a keeps_transmitter keeps_receiver parity_bit frame_bits sent_bits pace start_detected with_level received_byte
    wrong_parity scsr_after kept_with frame_ended look_taken looked receive_tick shifted_at_rise byte_ended receive_rise
    receiver_clock receiver_with_sccr framed taken idle_tick frame_end next_phase ticked bit_tick send_tick transmitter_clock
    line shift_clock transmitter_with_sccr decode_of packed unpacked pushed memory_byte displacement flags_of mode_a mode_b
    with_input drive_a drive_d driven_word levels_of rose fell edges with_edges reset_of sensed_at sensed fresh port_value
    register_value after_read start_b start_a entering kept_flag kept_flags write_of whole_instruction irq_due reset_start
    nmi_start irq_start start_of byte_put processor_of with_inputs count_a count_b sent_by heard_by peripherals_clock before_cpu
    finished clock_of halts put_write committed plain_of plains put_record located byte_after peripherals_read
    peripherals_written value_read performed in_order completion store_at modify_accesses branch_on bit_branch_accesses jump_to
    push_accesses pull_accesses return_accesses interrupt_return_accesses entry_accesses break_accesses jsr_accesses
    operation_accesses with_read changed_by byte_to_store branch_taken bit_branch_taken byte_to_push with_pulled with_register
    with_flag instruction_accesses reset_accesses interrupt_accesses
p2_clocks = refl

pub p2_clocks_b : tabulate
    (λ k. bit 5 (plains (system None) k (timer_start 0x1C 0x1E)).state.peripherals.control.ifr) 7 10
    ≡ false ∷ false ∷ false ∷ false ∷ false ∷ false ∷ true ∷ []
unfolding with_bit set_where flip_where input_count ticks_of in_force down_a counts_a clock_a lower_a upper_a load_counter_a reload_b
    down_b clock_b lower_b upper_b copy_b load_counter_b turn_to_c transmitter_asynchronous receiver_asynchronous receiver_shifting
    holds_a keeps_transmitter keeps_receiver parity_bit frame_bits sent_bits pace start_detected with_level received_byte
    wrong_parity scsr_after kept_with frame_ended look_taken looked receive_tick shifted_at_rise byte_ended receive_rise
    receiver_clock receiver_with_sccr framed taken idle_tick frame_end next_phase ticked bit_tick send_tick transmitter_clock
    line shift_clock transmitter_with_sccr decode_of packed unpacked pushed memory_byte displacement flags_of mode_a mode_b
    with_input drive_a drive_d driven_word levels_of rose fell edges with_edges reset_of sensed_at sensed fresh port_value
    register_value after_read start_b start_a entering kept_flag kept_flags write_of whole_instruction irq_due reset_start
    nmi_start irq_start start_of byte_put processor_of with_inputs count_a count_b sent_by heard_by peripherals_clock before_cpu
    finished clock_of halts put_write committed plain_of plains put_record located byte_after peripherals_read
    peripherals_written value_read performed in_order completion store_at modify_accesses branch_on bit_branch_accesses jump_to
    push_accesses pull_accesses return_accesses interrupt_return_accesses entry_accesses break_accesses jsr_accesses
    operation_accesses with_read changed_by byte_to_store branch_taken bit_branch_taken byte_to_push with_pulled with_register
    with_flag instruction_accesses reset_accesses interrupt_accesses
p2_clocks_b = refl

-- ---- P6, "one low sub-interval at the receiver: no start.": PA7 low on clocks 1 and 2, a tick on each clock, while
-- the CPU waits

abbrev pub listening : ℕ → ℕ → State
listening register received = with_peripherals (after_reset 6) (record {
  ports = fresh_ports;
  countera = record { count = 0; latch = 0 };
  counterb = fresh_peripherals.counterb;
  control = record { ifr = 0; ier = 0; mcr = 0; sccr = 0x40; scsr = 0x40 };
  serial = record { sent = 0; received = received };
  transmitter = idle_transmitter;
  receiver = record { subinterval = 0; half = false; left = 0; register = register };
})

abbrev pub line_start : ℕ → ℕ → List ℕ → World
line_start register received memory = start_with (listening register received) memory (1 ∷ 3 ∷ []) (7 ∷ 71 ∷ []) [] []

pub p6_low : (register received : ℕ) (memory : List ℕ)
    → (plains (system None) 2 (line_start register received memory)).state.peripherals.receiver
    ≡ record { subinterval = 1; half = false; left = 0; register = register }
unfolding with_bit set_where flip_where input_count ticks_of in_force down_a counts_a clock_a lower_a upper_a load_counter_a reload_b
    down_b clock_b lower_b upper_b copy_b load_counter_b turn_to_c transmitter_asynchronous receiver_asynchronous receiver_shifting
    holds_a keeps_transmitter keeps_receiver parity_bit frame_bits sent_bits pace start_detected with_level received_byte
    wrong_parity scsr_after kept_with frame_ended look_taken looked receive_tick shifted_at_rise byte_ended receive_rise
    receiver_clock receiver_with_sccr framed taken idle_tick frame_end next_phase ticked bit_tick send_tick transmitter_clock
    line shift_clock transmitter_with_sccr flags_of mode_a mode_b with_input drive_a drive_d driven_word levels_of rose fell edges
    with_edges reset_of sensed_at sensed fresh with_inputs count_a count_b sent_by heard_by peripherals_clock before_cpu finished
    clock_of halts put_write committed byte_put processor_of plain_of plains put_record
p6_low register received memory = refl

pub p6_none : (register received : ℕ) (memory : List ℕ)
    → (plains (system None) 4 (line_start register received memory)).state.peripherals.receiver
    ≡ record { subinterval = 0; half = false; left = 0; register = register }
unfolding with_bit set_where flip_where input_count ticks_of in_force down_a counts_a clock_a lower_a upper_a load_counter_a reload_b
    down_b clock_b lower_b upper_b copy_b load_counter_b turn_to_c transmitter_asynchronous receiver_asynchronous receiver_shifting
    holds_a keeps_transmitter keeps_receiver parity_bit frame_bits sent_bits pace start_detected with_level received_byte
    wrong_parity scsr_after kept_with frame_ended look_taken looked receive_tick shifted_at_rise byte_ended receive_rise
    receiver_clock receiver_with_sccr framed taken idle_tick frame_end next_phase ticked bit_tick send_tick transmitter_clock
    line shift_clock transmitter_with_sccr flags_of mode_a mode_b with_input drive_a drive_d driven_word levels_of rose fell edges
    with_edges reset_of sensed_at sensed fresh with_inputs count_a count_b sent_by heard_by peripherals_clock before_cpu finished
    clock_of halts put_write committed byte_put processor_of plain_of plains put_record
p6_none register received memory = refl

pub p6_status : (register received : ℕ) (memory : List ℕ)
    → (plains (system None) 4 (line_start register received memory)).state.peripherals.control.scsr ≡ 0x40
unfolding with_bit set_where flip_where input_count ticks_of in_force down_a counts_a clock_a lower_a upper_a load_counter_a reload_b
    down_b clock_b lower_b upper_b copy_b load_counter_b turn_to_c transmitter_asynchronous receiver_asynchronous receiver_shifting
    holds_a keeps_transmitter keeps_receiver parity_bit frame_bits sent_bits pace start_detected with_level received_byte
    wrong_parity scsr_after kept_with frame_ended look_taken looked receive_tick shifted_at_rise byte_ended receive_rise
    receiver_clock receiver_with_sccr framed taken idle_tick frame_end next_phase ticked bit_tick send_tick transmitter_clock
    line shift_clock transmitter_with_sccr flags_of mode_a mode_b with_input drive_a drive_d driven_word levels_of rose fell edges
    with_edges reset_of sensed_at sensed fresh with_inputs count_a count_b sent_by heard_by peripherals_clock before_cpu finished
    clock_of halts put_write committed byte_put processor_of plain_of plains put_record
p6_status register received memory = refl

-- ---- P5, "41h, 8 bits, no parity, latch 0: 176 clocks from start to idle."

-- LDA #00h, STA 18h, STA 1Ah, LDA #80h, STA 15h, LDA #41h, STA 17h, whose byte is put on clock 18, and a jump to
-- itself
abbrev pub sender_program : List ℕ
sender_program =
    replicate 0x40 0
    ++ (0xA9 ∷ 0x00 ∷ 0x85 ∷ 0x18 ∷ 0x85 ∷ 0x1A ∷ 0xA9 ∷ 0x80 ∷ 0x85 ∷ 0x15 ∷ 0xA9 ∷ 0x41 ∷ 0x85 ∷ 0x17 ∷ 0x4C ∷ 0x4E
    ∷ 0x00 ∷ [])

abbrev pub sender_start : World
sender_start = start_with (after_reset 0) sender_program [] [] (replicate 6 0) (replicate 6 0)

-- the start bit is on the line after clock 19
pub p5_start : (plains (system None) 19 sender_start).state.peripherals.transmitter
    ≡ record { left = 11; phase = 0; register = 0x682 }
unfolding with_bit set_where flip_where input_count ticks_of in_force down_a counts_a clock_a lower_a upper_a load_counter_a reload_b
    down_b clock_b lower_b upper_b copy_b load_counter_b turn_to_c transmitter_asynchronous receiver_asynchronous receiver_shifting
    holds_a keeps_transmitter keeps_receiver parity_bit frame_bits sent_bits pace start_detected with_level received_byte
    wrong_parity scsr_after kept_with frame_ended look_taken looked receive_tick shifted_at_rise byte_ended receive_rise
    receiver_clock receiver_with_sccr framed taken idle_tick frame_end next_phase ticked bit_tick send_tick transmitter_clock
    line shift_clock transmitter_with_sccr decode_of packed unpacked pushed memory_byte displacement flags_of mode_a mode_b
    with_input drive_a drive_d driven_word levels_of rose fell edges with_edges reset_of sensed_at sensed fresh port_value
    register_value after_read start_b start_a entering kept_flag kept_flags write_of whole_instruction irq_due reset_start
    nmi_start irq_start start_of byte_put processor_of with_inputs count_a count_b sent_by heard_by peripherals_clock before_cpu
    finished clock_of halts put_write committed plain_of plains put_record located byte_after peripherals_read
    peripherals_written value_read performed in_order completion store_at modify_accesses branch_on bit_branch_accesses jump_to
    push_accesses pull_accesses return_accesses interrupt_return_accesses entry_accesses break_accesses jsr_accesses
    operation_accesses with_read changed_by byte_to_store branch_taken bit_branch_taken byte_to_push with_pulled with_register
    with_flag instruction_accesses reset_accesses interrupt_accesses
p5_start = refl

-- after clock 194 one bit is left, and after clock 195 it is idle, with an under-run; the line's six edges are its
-- records
pub p5_last_bit : (plains (system None) 194 sender_start).state.peripherals.transmitter.left ≡ 1
unfolding with_bit set_where flip_where input_count ticks_of in_force down_a counts_a clock_a lower_a upper_a load_counter_a reload_b
    down_b clock_b lower_b upper_b copy_b load_counter_b turn_to_c transmitter_asynchronous receiver_asynchronous receiver_shifting
    holds_a keeps_transmitter keeps_receiver parity_bit frame_bits sent_bits pace start_detected with_level received_byte
    wrong_parity scsr_after kept_with frame_ended look_taken looked receive_tick shifted_at_rise byte_ended receive_rise
    receiver_clock receiver_with_sccr framed taken idle_tick frame_end next_phase ticked bit_tick send_tick transmitter_clock
    line shift_clock transmitter_with_sccr decode_of packed unpacked pushed memory_byte displacement flags_of mode_a mode_b
    with_input drive_a drive_d driven_word levels_of rose fell edges with_edges reset_of sensed_at sensed fresh port_value
    register_value after_read start_b start_a entering kept_flag kept_flags write_of whole_instruction irq_due reset_start
    nmi_start irq_start start_of byte_put processor_of with_inputs count_a count_b sent_by heard_by peripherals_clock before_cpu
    finished clock_of halts put_write committed plain_of plains put_record located byte_after peripherals_read
    peripherals_written value_read performed in_order completion store_at modify_accesses branch_on bit_branch_accesses jump_to
    push_accesses pull_accesses return_accesses interrupt_return_accesses entry_accesses break_accesses jsr_accesses
    operation_accesses with_read changed_by byte_to_store branch_taken bit_branch_taken byte_to_push with_pulled with_register
    with_flag instruction_accesses reset_accesses interrupt_accesses
p5_last_bit = refl

pub p5_idle : (plains (system None) 195 sender_start).state.peripherals.transmitter ≡ idle_transmitter
unfolding with_bit set_where flip_where input_count ticks_of in_force down_a counts_a clock_a lower_a upper_a load_counter_a reload_b
    down_b clock_b lower_b upper_b copy_b load_counter_b turn_to_c transmitter_asynchronous receiver_asynchronous receiver_shifting
    holds_a keeps_transmitter keeps_receiver parity_bit frame_bits sent_bits pace start_detected with_level received_byte
    wrong_parity scsr_after kept_with frame_ended look_taken looked receive_tick shifted_at_rise byte_ended receive_rise
    receiver_clock receiver_with_sccr framed taken idle_tick frame_end next_phase ticked bit_tick send_tick transmitter_clock
    line shift_clock transmitter_with_sccr decode_of packed unpacked pushed memory_byte displacement flags_of mode_a mode_b
    with_input drive_a drive_d driven_word levels_of rose fell edges with_edges reset_of sensed_at sensed fresh port_value
    register_value after_read start_b start_a entering kept_flag kept_flags write_of whole_instruction irq_due reset_start
    nmi_start irq_start start_of byte_put processor_of with_inputs count_a count_b sent_by heard_by peripherals_clock before_cpu
    finished clock_of halts put_write committed plain_of plains put_record located byte_after peripherals_read
    peripherals_written value_read performed in_order completion store_at modify_accesses branch_on bit_branch_accesses jump_to
    push_accesses pull_accesses return_accesses interrupt_return_accesses entry_accesses break_accesses jsr_accesses
    operation_accesses with_read changed_by byte_to_store branch_taken bit_branch_taken byte_to_push with_pulled with_register
    with_flag instruction_accesses reset_accesses interrupt_accesses
p5_idle = refl

pub p5_edges : (plains (system None) 195 sender_start).output_clocks ≡ 19 ∷ 35 ∷ 51 ∷ 131 ∷ 147 ∷ 163 ∷ []
unfolding with_bit set_where flip_where input_count ticks_of in_force down_a counts_a clock_a lower_a upper_a load_counter_a reload_b
    down_b clock_b lower_b upper_b copy_b load_counter_b turn_to_c transmitter_asynchronous receiver_asynchronous receiver_shifting
    holds_a keeps_transmitter keeps_receiver parity_bit frame_bits sent_bits pace start_detected with_level received_byte
    wrong_parity scsr_after kept_with frame_ended look_taken looked receive_tick shifted_at_rise byte_ended receive_rise
    receiver_clock receiver_with_sccr framed taken idle_tick frame_end next_phase ticked bit_tick send_tick transmitter_clock
    line shift_clock transmitter_with_sccr decode_of packed unpacked pushed memory_byte displacement flags_of mode_a mode_b
    with_input drive_a drive_d driven_word levels_of rose fell edges with_edges reset_of sensed_at sensed fresh port_value
    register_value after_read start_b start_a entering kept_flag kept_flags write_of whole_instruction irq_due reset_start
    nmi_start irq_start start_of byte_put processor_of with_inputs count_a count_b sent_by heard_by peripherals_clock before_cpu
    finished clock_of halts put_write committed plain_of plains put_record located byte_after peripherals_read
    peripherals_written value_read performed in_order completion store_at modify_accesses branch_on bit_branch_accesses jump_to
    push_accesses pull_accesses return_accesses interrupt_return_accesses entry_accesses break_accesses jsr_accesses
    operation_accesses with_read changed_by byte_to_store branch_taken bit_branch_taken byte_to_push with_pulled with_register
    with_flag instruction_accesses reset_accesses interrupt_accesses
p5_edges = refl

-- ---- 02, U4: document 01's tape with the halt address 0000h, from fresh, with RES high on clock 1

-- LDA #55h, STA 00h and a jump to itself at 0200h; the reset vector
abbrev pub tape_memory : List ℕ
tape_memory =
    replicate 0x200 0 ++ (0xA9 ∷ 0x55 ∷ 0x85 ∷ 0x00 ∷ 0x4C ∷ 0x04 ∷ 0x02 ∷ []) ++ replicate 0xFDF5 0
    ++ (0x00 ∷ 0x02 ∷ 0x00 ∷ 0x00 ∷ [])

-- with so many free records
abbrev pub tape_start : ℕ → World
tape_start free = start_with fresh tape_memory (1 ∷ []) (res_high ∷ []) (replicate free 0) (replicate free 0)

-- the stop, the clock, the wait, and the records written
abbrev pub reached : World → List ℕ
reached w = w.stop ∷ w.state.clock ∷ w.state.cpu.wait ∷ w.written ∷ []

pub halt_reached : reached (plains (system (Some 0)) 100 (tape_start 1)) ≡ 12 ∷ 12 ∷ 0 ∷ 1 ∷ []
unfolding with_bit set_where flip_where input_count ticks_of in_force down_a counts_a clock_a lower_a upper_a load_counter_a reload_b
    down_b clock_b lower_b upper_b copy_b load_counter_b turn_to_c transmitter_asynchronous receiver_asynchronous receiver_shifting
    holds_a keeps_transmitter keeps_receiver parity_bit frame_bits sent_bits pace start_detected with_level received_byte
    wrong_parity scsr_after kept_with frame_ended look_taken looked receive_tick shifted_at_rise byte_ended receive_rise
    receiver_clock receiver_with_sccr framed taken idle_tick frame_end next_phase ticked bit_tick send_tick transmitter_clock
    line shift_clock transmitter_with_sccr decode_of packed unpacked pushed memory_byte displacement flags_of mode_a mode_b
    with_input drive_a drive_d driven_word levels_of rose fell edges with_edges reset_of sensed_at sensed fresh port_value
    register_value after_read start_b start_a entering kept_flag kept_flags write_of whole_instruction irq_due reset_start
    nmi_start irq_start start_of byte_put processor_of with_inputs count_a count_b sent_by heard_by peripherals_clock before_cpu
    finished clock_of is_written halts put_write committed plain_of plains put_record located byte_after peripherals_read
    peripherals_written value_read performed in_order completion store_at modify_accesses branch_on bit_branch_accesses jump_to
    push_accesses pull_accesses return_accesses interrupt_return_accesses entry_accesses break_accesses jsr_accesses
    operation_accesses with_read changed_by byte_to_store branch_taken bit_branch_taken byte_to_push with_pulled with_register
    with_flag instruction_accesses reset_accesses interrupt_accesses
halt_reached = refl

-- the halted leap is done and counted: event clocks 1, 8, 10 and 12
pub halt_leaps : leap_count (system (Some 0)) 100 (tape_start 1) ≡ 4
unfolding with_bit set_where flip_where input_count ticks_of in_force down_a counts_a clock_a lower_a upper_a load_counter_a reload_b
    down_b clock_b lower_b upper_b copy_b load_counter_b turn_to_c transmitter_asynchronous receiver_asynchronous receiver_shifting
    holds_a keeps_transmitter keeps_receiver parity_bit frame_bits sent_bits pace start_detected with_level received_byte
    wrong_parity scsr_after kept_with frame_ended look_taken looked receive_tick shifted_at_rise byte_ended receive_rise
    receiver_clock receiver_with_sccr framed taken idle_tick frame_end next_phase ticked bit_tick send_tick transmitter_clock
    line shift_clock transmitter_with_sccr decode_of packed unpacked pushed memory_byte displacement flags_of mode_a mode_b
    with_input drive_a drive_d driven_word levels_of rose fell edges with_edges reset_of sensed_at sensed fresh port_value
    register_value after_read start_b start_a entering kept_flag kept_flags write_of whole_instruction irq_due reset_start
    nmi_start irq_start start_of byte_put processor_of with_inputs count_a count_b sent_by heard_by peripherals_clock before_cpu
    finished clock_of is_written halts put_write committed plain_of plains put_record events_in quiet_end trace leap_count
    done_in event_in has_input same_levels levels_change underflows_a underflows_b ports_fresh control_fresh transmitter_idle
    receiver_idle is_reset reset_changes cpu_starts puts_byte event_of located byte_after peripherals_read
    peripherals_written value_read performed in_order completion store_at modify_accesses branch_on bit_branch_accesses jump_to
    push_accesses pull_accesses return_accesses interrupt_return_accesses entry_accesses break_accesses jsr_accesses
    operation_accesses with_read changed_by byte_to_store branch_taken bit_branch_taken byte_to_push with_pulled with_register
    with_flag instruction_accesses reset_accesses interrupt_accesses
halt_leaps = refl

-- 12 "also where that clock is the run's last", 0 where the run ends before it
pub halt_last : reached (plains (system (Some 0)) 12 (tape_start 1)) ≡ 12 ∷ 12 ∷ 0 ∷ 1 ∷ []
unfolding with_bit set_where flip_where input_count ticks_of in_force down_a counts_a clock_a lower_a upper_a load_counter_a reload_b
    down_b clock_b lower_b upper_b copy_b load_counter_b turn_to_c transmitter_asynchronous receiver_asynchronous receiver_shifting
    holds_a keeps_transmitter keeps_receiver parity_bit frame_bits sent_bits pace start_detected with_level received_byte
    wrong_parity scsr_after kept_with frame_ended look_taken looked receive_tick shifted_at_rise byte_ended receive_rise
    receiver_clock receiver_with_sccr framed taken idle_tick frame_end next_phase ticked bit_tick send_tick transmitter_clock
    line shift_clock transmitter_with_sccr decode_of packed unpacked pushed memory_byte displacement flags_of mode_a mode_b
    with_input drive_a drive_d driven_word levels_of rose fell edges with_edges reset_of sensed_at sensed fresh port_value
    register_value after_read start_b start_a entering kept_flag kept_flags write_of whole_instruction irq_due reset_start
    nmi_start irq_start start_of byte_put processor_of with_inputs count_a count_b sent_by heard_by peripherals_clock before_cpu
    finished clock_of is_written halts put_write committed plain_of plains put_record located byte_after peripherals_read
    peripherals_written value_read performed in_order completion store_at modify_accesses branch_on bit_branch_accesses jump_to
    push_accesses pull_accesses return_accesses interrupt_return_accesses entry_accesses break_accesses jsr_accesses
    operation_accesses with_read changed_by byte_to_store branch_taken bit_branch_taken byte_to_push with_pulled with_register
    with_flag instruction_accesses reset_accesses interrupt_accesses
halt_last = refl

pub halt_before : reached (plains (system (Some 0)) 11 (tape_start 1)) ≡ 0 ∷ 11 ∷ 1 ∷ 0 ∷ []
unfolding with_bit set_where flip_where input_count ticks_of in_force down_a counts_a clock_a lower_a upper_a load_counter_a reload_b
    down_b clock_b lower_b upper_b copy_b load_counter_b turn_to_c transmitter_asynchronous receiver_asynchronous receiver_shifting
    holds_a keeps_transmitter keeps_receiver parity_bit frame_bits sent_bits pace start_detected with_level received_byte
    wrong_parity scsr_after kept_with frame_ended look_taken looked receive_tick shifted_at_rise byte_ended receive_rise
    receiver_clock receiver_with_sccr framed taken idle_tick frame_end next_phase ticked bit_tick send_tick transmitter_clock
    line shift_clock transmitter_with_sccr decode_of packed unpacked pushed memory_byte displacement flags_of mode_a mode_b
    with_input drive_a drive_d driven_word levels_of rose fell edges with_edges reset_of sensed_at sensed fresh port_value
    register_value after_read start_b start_a entering kept_flag kept_flags write_of whole_instruction irq_due reset_start
    nmi_start irq_start start_of byte_put processor_of with_inputs count_a count_b sent_by heard_by peripherals_clock before_cpu
    finished clock_of is_written halts put_write committed plain_of plains put_record located byte_after peripherals_read
    peripherals_written value_read performed in_order completion store_at modify_accesses branch_on bit_branch_accesses jump_to
    push_accesses pull_accesses return_accesses interrupt_return_accesses entry_accesses break_accesses jsr_accesses
    operation_accesses with_read changed_by byte_to_store branch_taken bit_branch_taken byte_to_push with_pulled with_register
    with_flag instruction_accesses reset_accesses interrupt_accesses
halt_before = refl

-- "6 and 7 for that same clock come first"
pub halt_full : reached (plains (system (Some 0)) 100 (tape_start 0)) ≡ 7 ∷ 11 ∷ 1 ∷ 0 ∷ []
unfolding with_bit set_where flip_where input_count ticks_of in_force down_a counts_a clock_a lower_a upper_a load_counter_a reload_b
    down_b clock_b lower_b upper_b copy_b load_counter_b turn_to_c transmitter_asynchronous receiver_asynchronous receiver_shifting
    holds_a keeps_transmitter keeps_receiver parity_bit frame_bits sent_bits pace start_detected with_level received_byte
    wrong_parity scsr_after kept_with frame_ended look_taken looked receive_tick shifted_at_rise byte_ended receive_rise
    receiver_clock receiver_with_sccr framed taken idle_tick frame_end next_phase ticked bit_tick send_tick transmitter_clock
    line shift_clock transmitter_with_sccr decode_of packed unpacked pushed memory_byte displacement flags_of mode_a mode_b
    with_input drive_a drive_d driven_word levels_of rose fell edges with_edges reset_of sensed_at sensed fresh port_value
    register_value after_read start_b start_a entering kept_flag kept_flags write_of whole_instruction irq_due reset_start
    nmi_start irq_start start_of byte_put processor_of with_inputs count_a count_b sent_by heard_by peripherals_clock before_cpu
    finished clock_of is_written halts put_write committed plain_of plains put_record located byte_after peripherals_read
    peripherals_written value_read performed in_order completion store_at modify_accesses branch_on bit_branch_accesses jump_to
    push_accesses pull_accesses return_accesses interrupt_return_accesses entry_accesses break_accesses jsr_accesses
    operation_accesses with_read changed_by byte_to_store branch_taken bit_branch_taken byte_to_push with_pulled with_register
    with_flag instruction_accesses reset_accesses interrupt_accesses
halt_full = refl

-- 02, U6: "The `replay` example's first line becomes `12 FFFFFF55`": its one record with no halt address
pub tape_record : (plains (system None) 100 (tape_start 2)).output_clocks ≡ 12 ∷ 0 ∷ []
unfolding with_bit set_where flip_where input_count ticks_of in_force down_a counts_a clock_a lower_a upper_a load_counter_a reload_b
    down_b clock_b lower_b upper_b copy_b load_counter_b turn_to_c transmitter_asynchronous receiver_asynchronous receiver_shifting
    holds_a keeps_transmitter keeps_receiver parity_bit frame_bits sent_bits pace start_detected with_level received_byte
    wrong_parity scsr_after kept_with frame_ended look_taken looked receive_tick shifted_at_rise byte_ended receive_rise
    receiver_clock receiver_with_sccr framed taken idle_tick frame_end next_phase ticked bit_tick send_tick transmitter_clock
    line shift_clock transmitter_with_sccr decode_of packed unpacked pushed memory_byte displacement flags_of mode_a mode_b
    with_input drive_a drive_d driven_word levels_of rose fell edges with_edges reset_of sensed_at sensed fresh port_value
    register_value after_read start_b start_a entering kept_flag kept_flags write_of whole_instruction irq_due reset_start
    nmi_start irq_start start_of byte_put processor_of with_inputs count_a count_b sent_by heard_by peripherals_clock before_cpu
    finished clock_of is_written halts put_write committed plain_of plains put_record located byte_after peripherals_read
    peripherals_written value_read performed in_order completion store_at modify_accesses branch_on bit_branch_accesses jump_to
    push_accesses pull_accesses return_accesses interrupt_return_accesses entry_accesses break_accesses jsr_accesses
    operation_accesses with_read changed_by byte_to_store branch_taken bit_branch_taken byte_to_push with_pulled with_register
    with_flag instruction_accesses reset_accesses interrupt_accesses
tape_record = refl

pub tape_word : (plains (system None) 100 (tape_start 2)).output_words ≡ 0xFFFFFF55 ∷ 0 ∷ []
unfolding with_bit set_where flip_where input_count ticks_of in_force down_a counts_a clock_a lower_a upper_a load_counter_a reload_b
    down_b clock_b lower_b upper_b copy_b load_counter_b turn_to_c transmitter_asynchronous receiver_asynchronous receiver_shifting
    holds_a keeps_transmitter keeps_receiver parity_bit frame_bits sent_bits pace start_detected with_level received_byte
    wrong_parity scsr_after kept_with frame_ended look_taken looked receive_tick shifted_at_rise byte_ended receive_rise
    receiver_clock receiver_with_sccr framed taken idle_tick frame_end next_phase ticked bit_tick send_tick transmitter_clock
    line shift_clock transmitter_with_sccr decode_of packed unpacked pushed memory_byte displacement flags_of mode_a mode_b
    with_input drive_a drive_d driven_word levels_of rose fell edges with_edges reset_of sensed_at sensed fresh port_value
    register_value after_read start_b start_a entering kept_flag kept_flags write_of whole_instruction irq_due reset_start
    nmi_start irq_start start_of byte_put processor_of with_inputs count_a count_b sent_by heard_by peripherals_clock before_cpu
    finished clock_of is_written halts put_write committed plain_of plains put_record located byte_after peripherals_read
    peripherals_written value_read performed in_order completion store_at modify_accesses branch_on bit_branch_accesses jump_to
    push_accesses pull_accesses return_accesses interrupt_return_accesses entry_accesses break_accesses jsr_accesses
    operation_accesses with_read changed_by byte_to_store branch_taken bit_branch_taken byte_to_push with_pulled with_register
    with_flag instruction_accesses reset_accesses interrupt_accesses
tape_word = refl

-- 02, U6: on clocks 10 and 11 the byte of STA 00h waits; on clock 12, where no record is free, it still does
pub halt_waiting : tabulate (λ k. (plains (system (Some 0)) k (tape_start 1)).state.cpu.waiting) 4 9
    ≡ None ∷ Some (write_at 0x0000 0x55) ∷ Some (write_at 0x0000 0x55) ∷ None ∷ []
unfolding with_bit set_where flip_where input_count ticks_of in_force down_a counts_a clock_a lower_a upper_a load_counter_a reload_b
    down_b clock_b lower_b upper_b copy_b load_counter_b turn_to_c transmitter_asynchronous receiver_asynchronous receiver_shifting
    holds_a keeps_transmitter keeps_receiver parity_bit frame_bits sent_bits pace start_detected with_level received_byte
    wrong_parity scsr_after kept_with frame_ended look_taken looked receive_tick shifted_at_rise byte_ended receive_rise
    receiver_clock receiver_with_sccr framed taken idle_tick frame_end next_phase ticked bit_tick send_tick transmitter_clock
    line shift_clock transmitter_with_sccr decode_of packed unpacked pushed memory_byte displacement flags_of mode_a mode_b
    with_input drive_a drive_d driven_word levels_of rose fell edges with_edges reset_of sensed_at sensed fresh port_value
    register_value after_read start_b start_a entering kept_flag kept_flags write_of whole_instruction irq_due reset_start
    nmi_start irq_start start_of byte_put processor_of with_inputs count_a count_b sent_by heard_by peripherals_clock before_cpu
    finished clock_of is_written halts put_write committed plain_of plains put_record located byte_after peripherals_read
    peripherals_written value_read performed in_order completion store_at modify_accesses branch_on bit_branch_accesses jump_to
    push_accesses pull_accesses return_accesses interrupt_return_accesses entry_accesses break_accesses jsr_accesses
    operation_accesses with_read changed_by byte_to_store branch_taken bit_branch_taken byte_to_push with_pulled with_register
    with_flag instruction_accesses reset_accesses interrupt_accesses
halt_waiting = refl

pub full_waiting : (plains (system (Some 0)) 100 (tape_start 0)).state.cpu.waiting ≡ Some (write_at 0x0000 0x55)
unfolding with_bit set_where flip_where input_count ticks_of in_force down_a counts_a clock_a lower_a upper_a load_counter_a reload_b
    down_b clock_b lower_b upper_b copy_b load_counter_b turn_to_c transmitter_asynchronous receiver_asynchronous receiver_shifting
    holds_a keeps_transmitter keeps_receiver parity_bit frame_bits sent_bits pace start_detected with_level received_byte
    wrong_parity scsr_after kept_with frame_ended look_taken looked receive_tick shifted_at_rise byte_ended receive_rise
    receiver_clock receiver_with_sccr framed taken idle_tick frame_end next_phase ticked bit_tick send_tick transmitter_clock
    line shift_clock transmitter_with_sccr decode_of packed unpacked pushed memory_byte displacement flags_of mode_a mode_b
    with_input drive_a drive_d driven_word levels_of rose fell edges with_edges reset_of sensed_at sensed fresh port_value
    register_value after_read start_b start_a entering kept_flag kept_flags write_of whole_instruction irq_due reset_start
    nmi_start irq_start start_of byte_put processor_of with_inputs count_a count_b sent_by heard_by peripherals_clock before_cpu
    finished clock_of is_written halts put_write committed plain_of plains put_record located byte_after peripherals_read
    peripherals_written value_read performed in_order completion store_at modify_accesses branch_on bit_branch_accesses jump_to
    push_accesses pull_accesses return_accesses interrupt_return_accesses entry_accesses break_accesses jsr_accesses
    operation_accesses with_read changed_by byte_to_store branch_taken bit_branch_taken byte_to_push with_pulled with_register
    with_flag instruction_accesses reset_accesses interrupt_accesses
full_waiting = refl

-- STA 00h and an undefined opcode: "the clock after it isn't looked at", whose 6 is not told
abbrev pub undefined_next : World
undefined_next = start_with (after_reset 0) (replicate 0x40 0 ++ (0x85 ∷ 0x00 ∷ 0x02 ∷ [])) [] [] (0 ∷ []) (0 ∷ [])

pub halt_before_six : reached (plains (system (Some 0)) 10 undefined_next) ≡ 12 ∷ 3 ∷ 0 ∷ 1 ∷ []
unfolding with_bit set_where flip_where input_count ticks_of in_force down_a counts_a clock_a lower_a upper_a load_counter_a reload_b
    down_b clock_b lower_b upper_b copy_b load_counter_b turn_to_c transmitter_asynchronous receiver_asynchronous receiver_shifting
    holds_a keeps_transmitter keeps_receiver parity_bit frame_bits sent_bits pace start_detected with_level received_byte
    wrong_parity scsr_after kept_with frame_ended look_taken looked receive_tick shifted_at_rise byte_ended receive_rise
    receiver_clock receiver_with_sccr framed taken idle_tick frame_end next_phase ticked bit_tick send_tick transmitter_clock
    line shift_clock transmitter_with_sccr decode_of packed unpacked pushed memory_byte displacement flags_of mode_a mode_b
    with_input drive_a drive_d driven_word levels_of rose fell edges with_edges reset_of sensed_at sensed fresh port_value
    register_value after_read start_b start_a entering kept_flag kept_flags write_of whole_instruction irq_due reset_start
    nmi_start irq_start start_of byte_put processor_of with_inputs count_a count_b sent_by heard_by peripherals_clock before_cpu
    finished clock_of is_written halts put_write committed plain_of plains put_record located byte_after peripherals_read
    peripherals_written value_read performed in_order completion store_at modify_accesses branch_on bit_branch_accesses jump_to
    push_accesses pull_accesses return_accesses interrupt_return_accesses entry_accesses break_accesses jsr_accesses
    operation_accesses with_read changed_by byte_to_store branch_taken bit_branch_taken byte_to_push with_pulled with_register
    with_flag instruction_accesses reset_accesses interrupt_accesses
halt_before_six = refl

-- JSR 0200h at 0040h with SP 00h: it tells port A and 00FFh, in order
abbrev pub at_call : State
at_call = record {
  cpu = record { a = 0; x = 0; y = 0; sp = 0x00; p = 0x04; pc = 0x40; wait = 0; waiting = None };
  due = record { reset = false; nmi = false };
  peripherals = fresh_peripherals;
  external = high_levels;
  last = high_levels;
  clock = 0;
}

abbrev pub calling_start : World
calling_start = start_with at_call (replicate 0x40 0 ++ (0x20 ∷ 0x00 ∷ 0x02 ∷ [])) [] [] (0 ∷ []) (0 ∷ [])

pub call_told : told (told_by (clock_in calling_start)) ≡ write_at 0x0000 0x00 ∷ write_at 0x00FF 0x42 ∷ []
unfolding with_bit set_where flip_where input_count ticks_of in_force down_a counts_a clock_a lower_a upper_a load_counter_a reload_b
    down_b clock_b lower_b upper_b copy_b load_counter_b turn_to_c transmitter_asynchronous receiver_asynchronous receiver_shifting
    holds_a keeps_transmitter keeps_receiver parity_bit frame_bits sent_bits pace start_detected with_level received_byte
    wrong_parity scsr_after kept_with frame_ended look_taken looked receive_tick shifted_at_rise byte_ended receive_rise
    receiver_clock receiver_with_sccr framed taken idle_tick frame_end next_phase ticked bit_tick send_tick transmitter_clock
    line shift_clock transmitter_with_sccr decode_of packed unpacked pushed memory_byte displacement flags_of mode_a mode_b
    with_input drive_a drive_d driven_word levels_of rose fell edges with_edges reset_of sensed_at sensed fresh port_value
    register_value after_read start_b start_a entering kept_flag kept_flags write_of whole_instruction irq_due reset_start
    nmi_start irq_start start_of byte_put processor_of with_inputs count_a count_b sent_by heard_by peripherals_clock before_cpu
    finished clock_of is_written halts put_write committed plain_of plains put_record located byte_after peripherals_read
    peripherals_written value_read performed in_order completion store_at modify_accesses branch_on bit_branch_accesses jump_to
    push_accesses pull_accesses return_accesses interrupt_return_accesses entry_accesses break_accesses jsr_accesses
    operation_accesses with_read changed_by byte_to_store branch_taken bit_branch_taken byte_to_push with_pulled with_register
    with_flag instruction_accesses reset_accesses interrupt_accesses
call_told = refl
