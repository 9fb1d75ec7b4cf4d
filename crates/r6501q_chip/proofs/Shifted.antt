-- The shifted clock of the R6501Q: no rule of the chip looks at the clock's value.
use Rattle.std.specs.Prelude.{None, Option, Some}
use mathlib.Core.Path.{◌≡◌, refl, sym, ap, ◌∙◌}
use mathlib.Core.Bool.{Bool, true, false, not, cond, ◌&&◌}
use mathlib.Core.List.{List, [], ◌∷◌}
use Prim.Native.Nat.{ℕ, ◌+◌, ◌≤◌}
use native.Mathlib.Omega.{arith}
use lib.Dec.{ltb, eqb}
use lib.ListN.{length}
use borrow.Author.Tests.{eq-eqb}
use Rattle.std.specs.Prelude.{Option, is_some, Ok, Err}
use Rattle.std.specs.Bool.{then_some}
use Rattle.bits.proofs.Cond.{cond_map, cond_along}
use Rattle.stops.specs.declared.Stop.TheVariants.{Full}
use Rattle.cpu_access.specs.declared.stack.Write.{Write}
use Rattle.cpu.specs.InstructionAccesses.{Ending, undefined, leaves, instruction_accesses}
use Rattle.memory.specs.Memory.{memory_length}
use Rattle.pin_lists.specs.PinLists.{pins_right}
use Rattle.refusals.specs.Refusals.{last_clock, refusal_of}
use Rattle.leaps.specs.Leaps.{plains, leap_count}
use Rattle.leaps.specs.CallLists.{step_of, run_of}
use Rattle.leaps.specs.Calls.{call_start, refusal_in}
use Rattle.leaps.specs.Shifted.{shifted_clocks, shifted_outcome, ShiftedWorld, ShiftedHanded, clock_refusal, RefusedAlike}
use Rattle.leaps.proofs.Shifted as theory
use Rattle.leaps.proofs.Shifted.{ShiftLaws}
use Rattle.leaps.proofs.ShiftedCalls as calls
use Rattle.r6501q_state.specs.declared.state.State.{State}
use Rattle.r6501q_state.specs.declared.state.Peripherals.{Peripherals}
use Rattle.r6501q_state.specs.State.{fresh, well_formed}
use Rattle.r6501q_state.specs.Pins.{driven_word, levels_of, with_edges, reset_of, sensed_at, sensed}
use Rattle.r6501q_cpu.specs.declared.Next.{Next}
use Rattle.r6501q_cpu.specs.Processor.{Processed, registers_of, performed_in, processed_by, irq_due, whole_instruction, reset_start}
use Rattle.r6501q_cpu.specs.Processor.{nmi_start, irq_start, start_of, without_writes, byte_put, waited_by, processor_of}
use Rattle.r6501q_clock.specs.Clock.{inputs_set, before_cpu, ended_with, finished, recorded, clock_of}
use Rattle.r6501q_events.specs.Events.{levels_change, underflows_a, underflows_b, reset_changes, cpu_starts, puts_byte, is_reset}
use Rattle.r6501q_events.specs.Events.{event_of}
use Rattle.r6501q_events.specs.Gaps.{to_input, to_change, to_underflow_a, to_underflow_b, to_reset, to_cpu, gap_of, pass_of}
use Rattle.r6501q_chip.specs.R6501q.{World, clock_outcome, r6501q, system, machine}
use Rattle.r6501q_chip.specs.Shifted.{shifted_state}

module _ (k : ℕ) where
  -- ---- steps 1 to 3

  sensed_shifted : (s : State) → sensed (shifted_state k s) ≡ shifted_state k (sensed s)
  unfolding sensed sensed_at levels_of with_edges reset_of
  sensed_shifted s = sym (cond_map (shifted_state k) s.external.res _ _)

  inputs_shifted : (s : State) (codes : List ℕ)
      → inputs_set (shifted_state k s) codes ≡ shifted_state k (inputs_set s codes)
  inputs_shifted s codes = let e : s.clock + k + 1 ≡ s.clock + 1 + k = omega arith in rw e

  before_cpu_shifted : (s : State) (codes : List ℕ)
      → before_cpu (shifted_state k s) codes ≡ shifted_state k (before_cpu s codes)
  unfolding before_cpu
  before_cpu_shifted s codes = rw (inputs_shifted s codes, sensed_shifted (inputs_set s codes))

  -- ---- step 4

  abbrev shifted_next : Next → Next
  shifted_next n = record { state = shifted_state k n.state; writes = n.writes }

  abbrev shifted_processed : Processed → Processed
  shifted_processed (Err stop) = Err stop
  shifted_processed (Ok n) = Ok (shifted_next n)

  instruction_shifted : (s : State) (memory : List ℕ)
      → whole_instruction (shifted_state k s) memory ≡ shifted_processed (whole_instruction s memory)
  unfolding whole_instruction
  instruction_shifted s memory =
      let x = performed_in s memory (instruction_accesses (registers_of s.cpu)) in
      by_end x.peripherals x.writes x.end
    where
      by_end : (p : Peripherals) (pushes : List Write) (end : Ending)
          → processed_by (shifted_state k s) p pushes end ≡ shifted_processed (processed_by s p pushes end)
      by_end p pushes undefined = refl
      by_end p pushes (leaves l) = refl

  start_shifted : (s : State) (memory : List ℕ)
      → start_of (shifted_state k s) memory ≡ shifted_processed (start_of s memory)
  unfolding start_of reset_start nmi_start irq_start irq_due
  start_shifted s memory =
      sym (cond_along shifted_processed s.due.reset (Ok (reset_start s memory)) _ refl
      (cond_along shifted_processed s.due.nmi (Ok (nmi_start s memory)) _ refl
      (cond_along shifted_processed (irq_due s) (Ok (irq_start s memory)) (whole_instruction s memory) refl
      (sym (instruction_shifted s memory)))))

  waited_shifted : (s : State) (w : Option Write) → waited_by (shifted_state k s) w ≡ shifted_processed (waited_by s w)
  unfolding byte_put
  waited_shifted s None = refl
  waited_shifted s (Some w) = sym (cond_map shifted_processed (eqb s.cpu.wait 1) _ _)

  processor_shifted : (s : State) (memory : List ℕ)
      → processor_of (shifted_state k s) memory ≡ shifted_processed (processor_of s memory)
  unfolding processor_of
  processor_shifted s memory =
      sym (cond_along shifted_processed s.last.res _ (without_writes s)
      (cond_along shifted_processed (ltb 0 s.cpu.wait) (waited_by s s.cpu.waiting) (start_of s memory)
      (sym (waited_shifted s s.cpu.waiting)) (sym (start_shifted s memory))) refl)

  -- ---- the clock, its event and its gap

  recorded_shifted : (halt : Option ℕ) (memory : List ℕ) (before : ℕ) (free : Bool) (x : Processed)
      → clock_outcome halt memory (recorded before free (shifted_processed x))
      ≡ shifted_outcome shifted_state k (clock_outcome halt memory (recorded before free x))
  unfolding finished
  recorded_shifted halt memory before free (Err stop) = refl
  recorded_shifted halt memory before free (Ok n) =
      let word = driven_word n.state.peripherals in
      let due = then_some (not (eqb word before)) word in
      by_test due (is_some due && not free)
    where
      by_test : (word : Option ℕ) (full : Bool)
          → clock_outcome halt memory (cond full (Err Full) (Ok (ended_with (shifted_next n) word)))
          ≡ shifted_outcome shifted_state k
          (clock_outcome halt memory (cond full (Err Full) (Ok (ended_with n word))))
      by_test word true = refl
      by_test word false = refl

  outcome_shifted : (halt : Option ℕ) (s : State) (codes memory : List ℕ) (free : Bool)
      → clock_outcome halt memory (clock_of (shifted_state k s) codes memory free)
      ≡ shifted_outcome shifted_state k (clock_outcome halt memory (clock_of s codes memory free))
  unfolding clock_of
  outcome_shifted halt s codes memory free =
      let word = driven_word s.peripherals in
      ap (λ (x : Processed). clock_outcome halt memory (recorded word free x))
      (ap (λ (t : State). processor_of t memory) (before_cpu_shifted s codes) ∙ processor_shifted
      (before_cpu s codes) memory)
      ∙ recorded_shifted halt memory word free (processor_of (before_cpu s codes) memory)

  event_shifted : (halt : Option ℕ) (s : State) (codes : List ℕ)
      → (r6501q halt).event (shifted_state k s) codes ≡ (r6501q halt).event s codes
  unfolding event_of levels_change underflows_a underflows_b reset_changes is_reset cpu_starts puts_byte levels_of with_edges
  event_shifted halt s codes = rw (inputs_shifted s codes, sensed_shifted (inputs_set s codes)) refl

  input_shifted : (n clock : ℕ) (clocks : List ℕ)
      → to_input n (clock + k) (shifted_clocks k clocks) ≡ to_input n clock clocks
  unfolding to_input
  input_shifted n clock [] = refl
  input_shifted n clock (t ∷ ts) = omega arith

  gap_shifted : (halt : Option ℕ) (n : ℕ) (s : State) (clocks : List ℕ)
      → (r6501q halt).gap n (shifted_state k s) (shifted_clocks k clocks) ≡ (r6501q halt).gap n s clocks
  unfolding gap_of to_change to_underflow_a to_underflow_b to_reset to_cpu levels_change levels_of reset_changes is_reset
  gap_shifted halt n s clocks = rw (input_shifted n s.clock clocks) refl

  pass_shifted : (halt : Option ℕ) (g : ℕ) (s : State)
      → (r6501q halt).pass g (shifted_state k s) ≡ shifted_state k ((r6501q halt).pass g s)
  unfolding pass_of
  pass_shifted halt g s = let e : s.clock + k + g ≡ s.clock + g + k = omega arith in rw e refl

-- with any halt address or none
pub shift_laws : (halt : Option ℕ) → ShiftLaws (r6501q halt) shifted_state
unfolding well_formed
shift_laws halt = record {
  clock = λ k s. refl;
  formed = λ k s. refl;
  outcome = λ k. outcome_shifted k halt;
  event = λ k. event_shifted k halt;
  gap = λ k. gap_shifted k halt;
  pass = λ k. pass_shifted k halt;
}

-- ---- The theorem of the shifted clock. From two worlds that are alike but for their clocks, the second k later:

module _ (halt : Option ℕ) (k : ℕ) (w v : World) (r : ShiftedWorld shifted_state k w v) where
  -- any number of plain clocks leaves two such worlds, in as many leaps by document 01's count;
  pub plains_shifted : (n : ℕ) → ShiftedWorld shifted_state k (plains (system halt) n w) (plains (system halt) n v)
  plains_shifted n = theory.plains_shifted (r6501q halt) shifted_state (shift_laws halt) k n w v r

  pub count_shifted : (n : ℕ) → leap_count (system halt) n v ≡ leap_count (system halt) n w
  count_shifted n = theory.count_shifted (r6501q halt) shifted_state (shift_laws halt) k n w v r

  -- the single-clock call and the run hand back the same but for the clock, leaps too, refused or not, where 4 is told
  -- at both clocks or at neither;
  pub step_shifted : RefusedAlike (r6501q halt) 1 w v
      → ShiftedHanded shifted_state k (step_of (machine halt) w) (step_of (machine halt) v)
  step_shifted alike = calls.step_shifted (r6501q halt) shifted_state (shift_laws halt) k w v r alike

  pub run_call_shifted : (n : ℕ) → RefusedAlike (r6501q halt) n w v
      → ShiftedHanded shifted_state k (run_of (machine halt) n w) (run_of (machine halt) n v)
  run_call_shifted n alike = calls.run_call_shifted (r6501q halt) shifted_state (shift_laws halt) k n w v r alike

  -- which is so where the n clocks fit at the later clock.
  pub fit_alike : (n : ℕ) → v.state.clock + n ≤ last_clock → RefusedAlike (r6501q halt) n w v
  fit_alike n fits = calls.fit_alike (r6501q halt) shifted_state (shift_laws halt) k n w v fits

-- The same of calls, by what they are given: any state, memory and inputs, any output lists of the same lengths.
module _ (halt : Option ℕ) (k : ℕ) (s : State) (memory clocks codes times words times' words' : List ℕ)
    (clock_space : length times' ≡ length times) (word_space : length words' ≡ length words) where
  abbrev earlier_start : World
  earlier_start = call_start s memory clocks codes times words

  abbrev later_start : World
  later_start = call_start (shifted_state k s) memory (shifted_clocks k clocks) codes times' words'

  pub start_alike : ShiftedWorld shifted_state k earlier_start later_start
  start_alike =
      calls.start_shifted (r6501q halt) shifted_state (shift_laws halt) k
      s memory clocks codes times words times' words' clock_space word_space

  pub step_start_shifted : s.clock + k + 1 ≤ last_clock
      → ShiftedHanded shifted_state k (step_of (machine halt) earlier_start) (step_of (machine halt) later_start)
  step_start_shifted fits =
      step_shifted halt k earlier_start later_start start_alike
      (fit_alike halt k earlier_start later_start start_alike 1 fits)

  pub run_start_shifted : (n : ℕ) → s.clock + k + n ≤ last_clock
      → ShiftedHanded shifted_state k (run_of (machine halt) n earlier_start) (run_of (machine halt) n later_start)
  run_start_shifted n fits =
      run_call_shifted halt k earlier_start later_start start_alike n
      (fit_alike halt k earlier_start later_start start_alike n fits)

-- 4 does differ: a fresh chip may do a clock, and at the last clock none
pub four_differs : (halt : Option ℕ) (memory : List ℕ) → length memory ≡ memory_length
    → (refusal_in (r6501q halt) 1 (call_start fresh memory [] [] [] []) ≡ 0)
    × (refusal_in (r6501q halt) 1 (call_start (shifted_state last_clock fresh) memory [] [] [] []) ≡ clock_refusal)
unfolding refusal_of well_formed fresh pins_right
four_differs halt memory whole =
    (rw (eq-eqb (length memory) memory_length whole), rw (eq-eqb (length memory) memory_length whole))
