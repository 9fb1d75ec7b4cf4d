-- P1 to P8 of document 01, "Joints, edges and proved examples", and worked examples of document 02, in one table under
-- one theorem: each row cites its crate's definitions.
use Rattle.std.specs.Prelude.{None, Option, Some}
use mathlib.Core.Path.{◌≡◌}
use mathlib.Core.Bool.{Bool, true, false}
use mathlib.Core.List.{List, [], ◌∷◌}
use Prim.Native.Nat.{ℕ, ◌+◌, ◌≤◌, ◌<◌}
use lib.ListN.{length, get_or}
use Rattle.bits.specs.Lists.{tabulate}
use Rattle.cpu_opcodes.specs.Decode.{decode_of, count_defined}
use Rattle.cpu_opcodes.proofs.Laws as opcodes
use Rattle.cpu_access.specs.Stack.{write_at}
use Rattle.cpu_access.proofs.Told.{told}
use Rattle.cpu_alu.specs.Arithmetic.{adc_of}
use Rattle.cpu_alu.proofs.Examples as alu
use Rattle.bits.specs.Bits.{bit, word16}
use Rattle.serial_transmitter.specs.Transmitter.{idle_transmitter}
use Rattle.r6501q_state.specs.State.{fresh}
use Rattle.r6501q_state.specs.Pins.{sensed}
use Rattle.r6501q_state.proofs.Fresh.{FreshFields, fresh_fields}
use Rattle.r6501q_clock.specs.Clock.{inputs_set}
use Rattle.refusals.specs.Refusals.{last_clock}
use Rattle.leaps.specs.Leaps.{plains, leap_count}
use Rattle.leaps.specs.CallLists.{run_for, calls}
use Rattle.leaps.specs.Calls.{call_start, Fit}
use Rattle.r6501q_chip.specs.R6501q.{World, r6501q, system, machine}
use Rattle.r6501q_chip.proofs.Halted.{told_by, clock_in}
use Rattle.r6501q_examples.proofs.Examples as clocks
use Rattle.r6501q_examples.proofs.ShiftRegister.{ShiftRegister, shift_register}
use Rattle.r6501q_examples.proofs.AccessOrder.{AccessOrder, access_order}
use Rattle.r6501q_examples.proofs.IndirectJump.{jump_memory, indirect_jump}
use Rattle.r6501q_chip.proofs.Held.{held_clocks, held_leaps_lem}
use Rattle.r6501q_run.proofs.Fair.{first_half}

-- both counters and IFR after n clocks of a fresh chip with no inputs
abbrev pub held_row : ℕ → List ℕ → List ℕ
held_row n memory =
    let p = (plains (system None) n (call_start fresh memory [] [] [] [])).state.peripherals in
    p.countera.count ∷ p.counterb.count ∷ p.control.ifr ∷ []

pub record Examples : Type 0 where
  -- "L = 0: underflow each clock.": of whole clocks with RES low, of which step 1 clears the flags of both counters and
  -- step 2 sets them again
  pub p1_cleared : (clock : ℕ) → sensed (inputs_set (clocks.held_low 0x30 clock) []) ≡ clocks.held_low 0 (clock + 1)
  pub p1 : (n clock : ℕ) (memory times words : List ℕ)
      → plains (system None) n (clocks.start_with (clocks.held_low 0x30 clock) memory [] [] times words)
      ≡ clocks.start_with (clocks.held_low 0x30 (clock + n)) memory [] [] times words
  -- "L = 5 loaded on clock t: underflow on t + 6.": by STA 1Ah, whose byte is put on clock 10; IFR4 after clocks 10
  -- to 16; IFR5 of counter B by STA 1Eh
  pub p2_loaded : (plains (system None) 10 (clocks.timer_start 0x18 0x1A)).state.peripherals.countera
      ≡ record { count = 5; latch = 5 }
  pub p2 : tabulate
      (λ k. bit 4 (plains (system None) k (clocks.timer_start 0x18 0x1A)).state.peripherals.control.ifr) 7 10
      ≡ false ∷ false ∷ false ∷ false ∷ false ∷ false ∷ true ∷ []
  pub p2_b : tabulate
      (λ k. bit 5 (plains (system None) k (clocks.timer_start 0x1C 0x1E)).state.peripherals.control.ifr) 7 10
      ≡ false ∷ false ∷ false ∷ false ∷ false ∷ false ∷ true ∷ []
  -- "decimal 58h + 46h + C: 05h, C."
  pub p3 : (n v i z : Bool) → adc_of 0x58 0x46 (record { n = n; v = v; d = true; i = i; z = z; c = true })
      ≡ record { value = 0x05; status = record { n = true; v = true; d = true; i = i; z = false; c = true } }
  -- "7Fh + 01h: 80h, V, N."
  pub p4 : (n v i z : Bool) → adc_of 0x7F 0x01 (record { n = n; v = v; d = false; i = i; z = z; c = false })
      ≡ record { value = 0x80; status = record { n = true; v = true; d = false; i = i; z = false; c = false } }
  -- "41h, 8 bits, no parity, latch 0: 176 clocks from start to idle.": STA 17h, put on clock 18; the start bit is on
  -- the line after clock 19, one bit is left after clock 194, and after clock 195 it is idle; the line's edges are the
  -- chip's records
  pub p5_start : (plains (system None) 19 clocks.sender_start).state.peripherals.transmitter
      ≡ record { left = 11; phase = 0; register = 0x682 }
  pub p5_last_bit : (plains (system None) 194 clocks.sender_start).state.peripherals.transmitter.left ≡ 1
  pub p5_idle : (plains (system None) 195 clocks.sender_start).state.peripherals.transmitter ≡ idle_transmitter
  pub p5_edges : (plains (system None) 195 clocks.sender_start).output_clocks ≡ 19 ∷ 35 ∷ 51 ∷ 131 ∷ 147 ∷ 163 ∷ []
  -- "one low sub-interval at the receiver: no start.": PA7 low on clocks 1 and 2 by the pin list, a tick on each clock
  pub p6_low : (register received : ℕ) (memory : List ℕ)
      → (plains (system None) 2 (clocks.line_start register received memory)).state.peripherals.receiver
      ≡ record { subinterval = 1; half = false; left = 0; register = register }
  pub p6 : (register received : ℕ) (memory : List ℕ)
      → (plains (system None) 4 (clocks.line_start register received memory)).state.peripherals.receiver
      ≡ record { subinterval = 0; half = false; left = 0; register = register }
  -- 02, U1: 41h sent with SCCR A0h and latch 0, as port A is driven clock by clock; the next byte taken; SCCR written
  -- again; and 41h received with SCCR 50h at rises of PA4 (r6501q_examples/proofs/ShiftRegister.antt has the rows)
  pub shift_register : ShiftRegister
  -- 02, U4, document 01's tape with the halt address 0000h: stop, clock, wait and records written; 12 at clock 12, the
  -- record there, after the leaps to clocks 1, 8, 10 and 12; also where that clock is the run's last; 0 before it, and
  -- from clock 10 on the byte waits (02, U6); 7 for that clock comes first, and the byte still waits
  pub halt_reached : clocks.reached (plains (system (Some 0)) 100 (clocks.tape_start 1)) ≡ 12 ∷ 12 ∷ 0 ∷ 1 ∷ []
  pub halt_leaps : leap_count (system (Some 0)) 100 (clocks.tape_start 1) ≡ 4
  pub halt_last : clocks.reached (plains (system (Some 0)) 12 (clocks.tape_start 1)) ≡ 12 ∷ 12 ∷ 0 ∷ 1 ∷ []
  pub halt_before : clocks.reached (plains (system (Some 0)) 11 (clocks.tape_start 1)) ≡ 0 ∷ 11 ∷ 1 ∷ 0 ∷ []
  pub halt_full : clocks.reached (plains (system (Some 0)) 100 (clocks.tape_start 0)) ≡ 7 ∷ 11 ∷ 1 ∷ 0 ∷ []
  -- 02, U6, its one record with no halt address: `12 FFFFFF55`
  pub tape_record : (plains (system None) 100 (clocks.tape_start 2)).output_clocks ≡ 12 ∷ 0 ∷ []
  pub tape_word : (plains (system None) 100 (clocks.tape_start 2)).output_words ≡ 0xFFFFFF55 ∷ 0 ∷ []
  pub halt_waiting : tabulate (λ k. (plains (system (Some 0)) k (clocks.tape_start 1)).state.cpu.waiting) 4 9
      ≡ None ∷ Some (write_at 0x0000 0x55) ∷ Some (write_at 0x0000 0x55) ∷ None ∷ []
  pub full_waiting : (plains (system (Some 0)) 100 (clocks.tape_start 0)).state.cpu.waiting ≡ Some (write_at 0x0000 0x55)
  -- and 12 stands where the next clock would be 6: STA 00h before an undefined opcode
  pub halt_before_six : clocks.reached (plains (system (Some 0)) 10 clocks.undefined_next) ≡ 12 ∷ 3 ∷ 0 ∷ 1 ∷ []
  -- 02, U4, JSR with SP 00h: it tells 0000h, then 00FFh
  pub call_told : told (told_by (clock_in clocks.calling_start)) ≡ write_at 0x0000 0x00 ∷ write_at 0x00FF 0x42 ∷ []
  -- 01, One clock, 4, "All its reads and writes happen now": JSR over its own operand, a port's latch and its levels,
  -- an entry's pushes, RTI's pulls; 02, U6, SMB0 00h over an underflow (r6501q_examples/proofs/AccessOrder.antt has the
  -- rows)
  pub access_order : AccessOrder
  -- 02, U5, JMP (02FFh): the low byte of the target is at 02FFh, the high byte at 0200h, and five clocks
  pub indirect_jump : (first last next : ℕ)
      → (plains (system None) 1
      (clocks.start_with (clocks.after_reset 0) (jump_memory first last next) [] [] [] [])).state.cpu
      ≡ record { a = 0; x = 0; y = 0; sp = 0xFF; p = 0x04; pc = word16 first last; wait = 4; waiting = None }
  -- 02, U8: fresh, field by field (r6501q_state/proofs/Fresh.antt has the literals)
  pub fresh_fields : FreshFields
  -- 02, U8, a fresh chip with no inputs: both counters and IFR after clocks 65,535 to 65,537, and the leaps of 65,536
  -- and of 65,538 clocks
  pub held_counts : (memory : List ℕ) → held_row 65535 memory ≡ 0 ∷ 0 ∷ 0 ∷ []
  pub held_underflow : (memory : List ℕ) → held_row 65536 memory ≡ 0xFFFF ∷ 0xFFFF ∷ 0x30 ∷ []
  pub held_cleared : (memory : List ℕ) → held_row 65537 memory ≡ 0xFFFE ∷ 0xFFFE ∷ 0 ∷ []
  pub held_leap : (memory : List ℕ) → leap_count (system None) 65536 (call_start fresh memory [] [] [] []) ≡ 1
  pub held_leaps_lem : (memory : List ℕ) → leap_count (system None) 65538 (call_start fresh memory [] [] [] []) ≡ 3
  -- "cut after a clocks from clock 0, an input on clock a is the first half's."
  pub p7 : (halt : Option ℕ) (a : ℕ) (w : World) → Fit (r6501q halt) w → w.state.clock ≡ 0 → a ≤ last_clock
      → (calls (machine halt) (run_for a ∷ []) w).world.stop ≡ 0
      → (k : ℕ) → k < length (calls (machine halt) (run_for a ∷ []) w).world.input_clocks
      → a < get_or (calls (machine halt) (run_for a ∷ []) w).world.input_clocks k 0
  -- "183 opcodes are defined."
  pub p8 : count_defined (tabulate decode_of 256 0) ≡ 183

pub examples : Examples
examples = record {
  p1_cleared = clocks.p1_cleared;
  p1 = clocks.p1_clocks;
  p2_loaded = clocks.p2_loaded;
  p2 = clocks.p2_clocks;
  p2_b = clocks.p2_clocks_b;
  p3 = alu.p3;
  p4 = alu.p4;
  p5_start = clocks.p5_start;
  p5_last_bit = clocks.p5_last_bit;
  p5_idle = clocks.p5_idle;
  p5_edges = clocks.p5_edges;
  p6_low = clocks.p6_low;
  p6 = clocks.p6_none;
  shift_register = shift_register;
  halt_reached = clocks.halt_reached;
  halt_leaps = clocks.halt_leaps;
  halt_last = clocks.halt_last;
  halt_before = clocks.halt_before;
  halt_full = clocks.halt_full;
  tape_record = clocks.tape_record;
  tape_word = clocks.tape_word;
  halt_waiting = clocks.halt_waiting;
  full_waiting = clocks.full_waiting;
  halt_before_six = clocks.halt_before_six;
  call_told = clocks.call_told;
  access_order = access_order;
  indirect_jump = indirect_jump;
  fresh_fields = fresh_fields;
  held_counts = λ memory. rw (held_clocks None memory [] [] 65535);
  held_underflow = λ memory. rw (held_clocks None memory [] [] 65536);
  held_cleared = λ memory. rw (held_clocks None memory [] [] 65537);
  held_leap = λ memory. held_leaps_lem None memory [] [] 65536;
  held_leaps_lem = λ memory. held_leaps_lem None memory [] [] 65538;
  p7 = first_half;
  p8 = opcodes.p8;
}
