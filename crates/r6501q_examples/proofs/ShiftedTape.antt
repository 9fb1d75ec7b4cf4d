-- Document 01's tape with the clock shifted.
use Rattle.std.specs.Prelude.{Some}
use mathlib.Core.Path.{◌≡◌, refl, sym, ap, ◌∙◌}
use mathlib.Core.Bool.{Bool, true, false, not, cond, ◌&&◌}
use mathlib.Core.List.{List, [], ◌∷◌}
use Prim.Native.Nat.{ℕ, ◌+◌, ◌≤◌}
use native.Mathlib.Omega.{arith}
use lib.Dec.{ltb, eqb}
use lib.ListN.{length}
use borrow.Author.Tests.{eq-eqb}
use Rattle.bits.proofs.Cond.{cond_map, cond_along}
use Rattle.cpu_access.specs.declared.stack.Write.{Write}
use Rattle.cpu.specs.InstructionAccesses.{Ending, undefined, leaves, instruction_accesses}
use Rattle.memory.specs.Memory.{memory_length}
use Rattle.pin_lists.specs.PinLists.{pins_right}
use Rattle.refusals.specs.Refusals.{last_clock, refusal_of}
use Rattle.leaps.specs.Leaps.{plains, leap_count}
use Rattle.leaps.specs.CallLists.{step_of, run_of}
use Rattle.leaps.specs.Calls.{call_start, refusal_in}
use Rattle.leaps.specs.Shifted.{shifted_clocks, shifted_outcome, ShiftedWorld, ShiftedHanded, clock_refusal, RefusedAlike}
use Rattle.leaps.proofs.Shifted as theory
use Rattle.leaps.proofs.Shifted.{ShiftLaws}
use Rattle.leaps.proofs.ShiftedCalls as calls
use Rattle.r6501q_state.specs.declared.state.State.{State}
use Rattle.r6501q_state.specs.declared.state.Peripherals.{Peripherals}
use Rattle.r6501q_state.specs.State.{fresh, well_formed}
use Rattle.r6501q_state.specs.Inputs.{res_high}
use Rattle.r6501q_state.specs.Pins.{driven_word, levels_of, with_edges, reset_of, sensed_at, sensed}
use Rattle.r6501q_cpu.specs.declared.Next.{Next}
use Rattle.r6501q_cpu.specs.Processor.{registers_of, performed_in, processed_by, irq_due, whole_instruction, reset_start}
use Rattle.r6501q_cpu.specs.Processor.{nmi_start, irq_start, start_of, without_writes, byte_put, waited_by, processor_of}
use Rattle.r6501q_clock.specs.Clock.{inputs_set, before_cpu, ended_with, finished, recorded, clock_of}
use Rattle.r6501q_events.specs.Events.{levels_change, underflows_a, underflows_b, reset_changes, cpu_starts, puts_byte, is_reset}
use Rattle.r6501q_events.specs.Events.{event_of}
use Rattle.r6501q_events.specs.Gaps.{to_input, to_change, to_underflow_a, to_underflow_b, to_reset, to_cpu, gap_of, pass_of}
use Rattle.r6501q_chip.specs.R6501q.{World, clock_outcome, r6501q, system, machine}
use Rattle.r6501q_chip.specs.Shifted.{shifted_state}
use Rattle.r6501q_chip.proofs.Shifted.{start_alike, plains_shifted, count_shifted}
use Rattle.r6501q_examples.proofs.Examples.{start_with, tape_memory, tape_start, reached, halt_reached, halt_leaps}

-- 02, U4: document 01's tape with the halt address 0000h (`halt_reached`, `halt_leaps`), from fresh but for its clock,
-- any k: stop 12 behind twelve clocks, after one record, in 4 leaps
abbrev tape_at : ℕ → World
tape_at k = start_with (shifted_state k fresh) tape_memory ((1 + k) ∷ []) (res_high ∷ []) (0 ∷ []) (0 ∷ [])

tape_alike : (k : ℕ) → ShiftedWorld shifted_state k (tape_start 1) (tape_at k)
tape_alike k =
    start_alike (Some 0) k fresh tape_memory (1 ∷ []) (res_high ∷ []) (0 ∷ []) (0 ∷ []) (0 ∷ []) (0 ∷ []) refl refl

pub tape_reached : (k : ℕ) → reached (plains (system (Some 0)) 100 (tape_at k)) ≡ 12 ∷ (12 + k) ∷ 0 ∷ 1 ∷ []
tape_reached k =
    by_fields (plains (system (Some 0)) 100 (tape_start 1)) (plains (system (Some 0)) 100 (tape_at k))
    (plains_shifted (Some 0) k (tape_start 1) (tape_at k) (tape_alike k) 100) ∙ ap clock_shifted halt_reached
  where
    clock_shifted : List ℕ → List ℕ
    clock_shifted [] = []
    clock_shifted (stop ∷ []) = stop ∷ []
    clock_shifted (stop ∷ clock ∷ l) = stop ∷ (clock + k) ∷ l

    by_fields : (w v : World) → ShiftedWorld shifted_state k w v → reached v ≡ clock_shifted (reached w)
    by_fields w v r = rw (r.stop, r.state, r.written)

pub tape_leaps : (k : ℕ) → leap_count (system (Some 0)) 100 (tape_at k) ≡ 4
tape_leaps k = count_shifted (Some 0) k (tape_start 1) (tape_at k) (tape_alike k) 100 ∙ halt_leaps
