-- What the code does, by questions and answers, is what the accesses do, performed one after the other.
use mathlib.Core.Path.{◌≡◌, refl, sym, ap, ◌∙◌}
use mathlib.Core.Bool.{Bool, true, false}
use mathlib.Core.List.{List, [], ◌∷◌, ◌++◌}
use Prim.Native.Nat.{ℕ, suc, ◌≤◌, ◌<◌}
use native.Mathlib.Omega.{arith}
use lib.Dec.{ltb}
use lib.ListN.{length}
use borrow.Author.Tests.{ltb-true, ltb-false}
use Rattle.std.specs.Prelude.{Err}
use Rattle.memory.specs.Memory.{is_register}
use Rattle.stops.specs.declared.Stop.TheVariants.{Undefined}
use Rattle.cpu_alu.specs.Status.{pushed}
use Rattle.r6501q_state.specs.declared.state.Due.{Due}
use Rattle.r6501q_state.specs.declared.state.Peripherals.{Peripherals}
use Rattle.r6501q_state.specs.declared.state.State.{State}
use Rattle.r6501q_registers.specs.Read.{register_value, after_read}
use Rattle.r6501q_registers.proofs.Order.{read_write_commute}
use Rattle.cpu_access.specs.declared.CpuRegisters.{CpuRegisters}
use Rattle.cpu_access.specs.declared.stack.Write.{Write}
use Rattle.cpu_access.specs.Bus.{next_address, nmi_vector, irq_vector, vector_of}
use Rattle.cpu_access.specs.Stack.{push_interrupt}
use Rattle.cpu_access.specs.Accesses.{RegisterFile, byte_after, peripherals_read, peripherals_written}
use Rattle.cpu_access.specs.Accesses.{value_read, performed, in_order}
use Rattle.cpu_access.proofs.Asked.{Reply, asks, over, asked}
use Rattle.cpu_access.proofs.Answering.{all_written, performs}
use Rattle.cpu_effects.specs.Effects.{pushes_of, waiting_of, interrupted}
use Rattle.cpu.specs.EntriesInCode.{reset_entry, interrupt_entry}
use Rattle.cpu.specs.InstructionInCode.{instruction_of}
use Rattle.cpu.specs.InstructionAccesses.{Ending, undefined, leaves, entry_accesses}
use Rattle.cpu.specs.InstructionAccesses.{instruction_accesses}
use Rattle.cpu.specs.InstructionAccesses.{reset_accesses, interrupt_accesses}
use Rattle.cpu.proofs.Laws.{done_fits, asked_writes, asks_end}
use Rattle.cpu.proofs.InstructionAccesses.{pushes_as, waiting_as, worked_of, outcome_from, unpushed, instruction_asked}
use Rattle.r6501q_cpu.specs.Processor.{registers_of, register_file, performed_in, next_after, processed_by}
use Rattle.r6501q_cpu.specs.Processor.{processed_after, whole_instruction, reset_start, nmi_start, irq_start}
use Rattle.r6501q_cpu.specs.Asking.{put_register, registers_after, answer_of, next_of, round_by, round_of}
use Rattle.r6501q_cpu.specs.Asking.{instruction_from, answered_instruction}
use Rattle.r6501q_cpu.proofs.Asks.{round_over, round_answered}

-- writes as a list, and as the code has them
all_after : (levels : ℕ) (p : Peripherals) (ws : List Write) → (in_order ws).count ≤ 3
    → registers_after p (in_order ws) ≡ all_written (register_file levels) p ws
unfolding registers_after put_register in_order all_written peripherals_written
all_after levels p [] h = refl
all_after levels p (a ∷ []) h = refl
all_after levels p (a ∷ b ∷ []) h = refl
all_after levels p (a ∷ b ∷ c ∷ []) h = refl
all_after levels p (a ∷ b ∷ c ∷ d ∷ more) h = absurd (omega (arith, h))

module _ (s : State) (memory : List ℕ) where
  abbrev registers : CpuRegisters
  registers = registers_of s.cpu

  abbrev file : RegisterFile Peripherals
  file = register_file s.last.ports

  abbrev round : List ℕ → Reply Ending
  round answers = asked memory answers [] (instruction_accesses registers)

  -- a round of the instruction
  outcome_at : (answers : List ℕ) (x : Reply Ending) → round answers ≡ x
      → instruction_of registers answers memory ≡ outcome_from x
  outcome_at answers x e = instruction_asked answers memory registers ∙ ap outcome_from e

  round_at : (p : Peripherals) (answers : List ℕ) (x : Reply Ending) → round answers ≡ x
      → round_of s p answers memory ≡ round_by s p (outcome_from x)
  unfolding round_of
  round_at p answers x e = ap (round_by s p) (outcome_at answers x e)

  over_from : (n : ℕ) (p : Peripherals) (answers : List ℕ) (x : Ending) (ws : List Write) → round answers ≡ over x ws
      → instruction_from (Err Undefined) (suc n) s p answers memory ≡ processed_by s (all_written file p ws) ws x
  over_from n p answers undefined ws e =
      round_over (Err Undefined) s p answers memory (suc n) _ (omega arith)
      (round_at p answers (over undefined ws) e)
  over_from n p answers (leaves l) ws e =
      let fits = done_fits registers answers memory (worked_of l ws) (outcome_at answers (over (leaves l) ws) e) in
      let pushes = pushes_as l.waiting ws fits.writes in
      let few : (in_order ws).count ≤ 3 = rw pushes at fits.writes in
      round_over (Err Undefined) s p answers memory (suc n) _ (omega arith)
      (round_at p answers (over (leaves l) ws) e)
      ∙ rw (waiting_as l.waiting ws fits.writes, pushes, all_after s.last.ports p ws few) refl

  asks_from : (n : ℕ) (p : Peripherals) (answers : List ℕ) (modify : Bool) (a : ℕ) (ws : List Write)
      → round answers ≡ asks modify a ws
      → instruction_from (Err Undefined) (suc n) s p answers memory
      ≡ instruction_from (Err Undefined) n s (after_read p a)
      (answers ++ (register_value (all_written file p ws) s.last.ports modify a ∷ [])) memory
  unfolding answer_of
  asks_from n p answers modify a ws e =
      let few = asked_writes registers answers memory _ (outcome_at answers (asks modify a ws) e) in
      round_answered (Err Undefined) s p answers memory (suc n) n _ refl
      (round_at p answers (asks modify a ws) e)
      ∙ rw (all_after s.last.ports p ws few) refl

  bound : (answers : List ℕ) (modify : Bool) (a : ℕ) (ws : List Write) → round answers ≡ asks modify a ws
      → length answers < 5
  bound answers modify a ws e = by_length (ltb (length answers) 5) refl
    where
      by_length : (t : Bool) → ltb (length answers) 5 ≡ t → length answers < 5
      by_length true t = ltb-true (length answers) 5 t
      by_length false t =
          absurd (asks_end registers answers memory (ltb-false (length answers) 5 t) _
          (outcome_at answers (asks modify a ws) e))

  -- one whole instruction
  pub instruction_answered : whole_instruction s memory ≡ answered_instruction s memory
  unfolding whole_instruction answered_instruction all_written
  instruction_answered =
      sym (performs file read_write_commute memory round
      (λ n p answers. instruction_from (Err Undefined) n s p answers memory) (processed_after s) 5
      over_from asks_from bound (instruction_accesses registers) 5 s.peripherals [] [] (omega arith) (λ more. refl))

  -- ---- the entries

  -- a vector lies above the registers and the stack
  interrupt_answered : (due : Due) (vector : ℕ) → is_register vector ≡ false → is_register (next_address vector) ≡ false
      → 255 < vector → 255 < next_address vector
      → next_after s due (performed_in s memory (interrupt_accesses vector registers))
      ≡ next_of s due s.peripherals (interrupt_entry memory vector registers)
  unfolding interrupt_accesses entry_accesses interrupt_entry interrupted pushes_of waiting_of push_interrupt vector_of
      performed peripherals_read peripherals_written value_read in_order registers_after put_register
  interrupt_answered due vector low high under under' =
      let p = pushed registers.status false in
      rw (low, high, unpushed p registers vector _ under, unpushed p registers (next_address vector) _ under')

  pub reset_answered : reset_start s memory
      ≡ next_of s (record { reset = false; nmi = s.due.nmi }) s.peripherals (reset_entry memory registers)
  unfolding reset_start reset_accesses reset_entry pushes_of waiting_of vector_of performed peripherals_read value_read
      byte_after in_order registers_after put_register
  reset_answered = refl

  pub nmi_answered : nmi_start s memory
      ≡ next_of s (record { reset = s.due.reset; nmi = false }) s.peripherals
      (interrupt_entry memory nmi_vector registers)
  unfolding nmi_start
  nmi_answered =
      interrupt_answered (record { reset = s.due.reset; nmi = false }) nmi_vector refl refl (omega arith) (omega arith)

  pub irq_answered : irq_start s memory ≡ next_of s s.due s.peripherals (interrupt_entry memory irq_vector registers)
  unfolding irq_start
  irq_answered = interrupt_answered s.due irq_vector refl refl (omega arith) (omega arith)
