-- The CPU's part of a clock keeps every field in its range, and leaves the clock alone.
use Rattle.std.specs.Prelude.{None, Option, Some}
use mathlib.Core.Path.{◌≡◌, refl}
use mathlib.Core.Bool.{Bool, true, false, ◌&&◌, false≢true}
use mathlib.Core.List.{List, [], ◌∷◌, ◌++◌}
use Prim.Native.Nat.{ℕ, zero, suc, ◌-◌, ◌/◌, ◌%◌, ◌≤◌}
use native.Mathlib.Omega.{arith}
use lib.Dec.{ltb, eqb}
use borrow.Author.Tests.{eq-eqb, ne_eqb, le-leb, leb-true, eqb-false}
use Rattle.bits.proofs.Cond.{cond_both, one_where_le}
use Rattle.cpu_alu.specs.declared.Status.{Status}
use Rattle.cpu_alu.specs.Status.{packed}
use Rattle.r6501q_state.specs.declared.state.Due.{Due}
use Rattle.r6501q_state.specs.declared.state.Peripherals.{Peripherals}
use Rattle.r6501q_state.specs.declared.state.State.{State}
use Rattle.r6501q_state.specs.State.{cpu_fits, peripherals_fit, well_formed}
use Rattle.r6501q_state.specs.Copies.{at_wait, with_wait}
use Rattle.r6501q_state.proofs.Ranges.{formed, formed_cpu, formed_peripherals, in_cpu, fit_cpu}
use Rattle.r6501q_registers.specs.declared.read.Reading.{Reading}
use Rattle.r6501q_registers.specs.Read.{after_read}
use Rattle.r6501q_registers.specs.Write.{write_of}
use Rattle.r6501q_registers.proofs.Ranges.{read_fits, write_fits}
use Rattle.cpu_access.specs.declared.CpuRegisters.{CpuRegisters}
use Rattle.cpu_access.specs.declared.stack.Write.{Write}
use Rattle.cpu_access.specs.declared.stack.Writes.{Writes}
use Rattle.memory.specs.Memory.{is_register}
use Rattle.cpu_access.specs.Stack.{push_interrupt}
use Rattle.cpu_access.specs.Waiting.{byte_waits}
use Rattle.cpu_access.specs.Accesses.{peripherals_written}
use Rattle.cpu_effects.specs.declared.Worked.{Worked}
use Rattle.cpu_effects.specs.Effects.{interrupted, pushes_of, waiting_of}
use Rattle.std.specs.Prelude.{Ok, Err}
use Rattle.stops.specs.declared.Stop.TheVariants.{Undefined}
use Rattle.cpu.specs.declared.Outcome.{Outcome}
use Rattle.cpu.specs.declared.Outcome.TheVariants as outcome
use Rattle.cpu.specs.EntriesInCode.{reset_entry, interrupt_entry}
use Rattle.cpu_access.specs.Bus.{nmi_vector, irq_vector}
use Rattle.cpu.specs.InstructionInCode.{instruction_of}
use Rattle.cpu.proofs.Laws.{Fits, done_fits}
use Rattle.r6501q_cpu.specs.declared.Next.{Next}
use Rattle.r6501q_cpu.specs.Processor.{Processed}
use Rattle.r6501q_cpu.specs.Processor.{registers_of, cpu_of, irq_due, start_of, without_writes, wait_less, byte_put}
use Rattle.r6501q_cpu.specs.Processor.{waited_by, processor_of}
use Rattle.r6501q_cpu.specs.Asking.{put_register, registers_after, answer_of, next_of, round_by, after_round, round_of}
use Rattle.r6501q_cpu.specs.Asking.{instruction_from, answered_instruction}
use Rattle.r6501q_cpu.proofs.Answered.{instruction_answered, reset_answered, nmi_answered, irq_answered}

-- bits 4 and 5 of a packed P are 0
packed_clear : (s : Status) → packed s / 16 % 4 ≡ 0
unfolding packed
packed_clear s =
    let n = one_where_le s.n in let v = one_where_le s.v in let d = one_where_le s.d in
    let i = one_where_le s.i in let z = one_where_le s.z in let c = one_where_le s.c in
    omega arith

pub never_both : (b : Bool) → (b && false) ≡ false
never_both true = refl
never_both false = refl

-- an instruction takes two clocks at least, so that a byte never waits with wait 0
cpu_of_fits : (w : Worked) → Fits w → cpu_fits (cpu_of w.registers (w.length - 1) (waiting_of w.writing)) ≡ true
cpu_of_fits w f =
    let least = f.least in
    let most = f.most in
    fit_cpu (cpu_of w.registers (w.length - 1) (waiting_of w.writing)) (record {
      status = eq-eqb (packed w.registers.status / 16 % 4) 0 (packed_clear w.registers.status);
      wait = le-leb (w.length - 1) 6 (omega arith);
      waits = rw (ne_eqb (w.length - 1) 0 (λ e. omega arith)) (never_both (byte_waits (waiting_of w.writing)));
    })

-- register writes keep the peripherals in their ranges
put_fits : (there : Bool) (w : Write) (p : Peripherals) → peripherals_fit p ≡ true
    → peripherals_fit (put_register there w p) ≡ true
unfolding put_register
put_fits there w p e =
    cond_both (λ (x : Peripherals). peripherals_fit x ≡ true) (there && is_register w.address)
    (write_of p w.address w.value) p
    (λ _. write_fits p w.address w.value e) (λ _. e)

after_fits : (p : Peripherals) (w : Writes) → peripherals_fit p ≡ true → peripherals_fit (registers_after p w) ≡ true
unfolding registers_after
after_fits p w e =
    put_fits (ltb 2 w.count) w.third _
    (put_fits (ltb 1 w.count) w.second _ (put_fits (ltb 0 w.count) w.first p e))

-- so does a byte that is put
put_byte_fits : (s : State) (w : Write) → well_formed s ≡ true → well_formed (byte_put s w).state ≡ true
unfolding byte_put peripherals_written put_register
put_byte_fits s w e =
    let c = in_cpu s.cpu (formed_cpu s e) in
    formed _ (rw c.status refl) (put_fits true w s.peripherals (formed_peripherals s e))

reset_entry_fits : (memory : List ℕ) (r : CpuRegisters) → Fits (reset_entry memory r)
unfolding reset_entry pushes_of
reset_entry_fits memory r =
    record { writes = omega arith; least = omega arith; most = omega arith; store = λ e. absurd (false≢true e) }

interrupt_entry_fits : (memory : List ℕ) (vector : ℕ) (r : CpuRegisters) → Fits (interrupt_entry memory vector r)
unfolding interrupt_entry interrupted push_interrupt pushes_of
interrupt_entry_fits memory vector r =
    record { writes = omega arith; least = omega arith; most = omega arith; store = λ e. absurd (false≢true e) }

-- of the end of a clock's CPU part, where there is one
abbrev pub Ends : (Next → Type 0) → Processed → Type 0
Ends P (Err stop) = Unit {0}
Ends P (Ok n) = P n

-- What holds of the peripherals before, and after each read, and what follows of the state after an entry or an
-- instruction, of one with a clock less to wait, and of one that RES holds: that holds of the CPU's part.
module _ (s : State) (memory : List ℕ) (Q : Peripherals → Type 0) (P : Next → Type 0)
    (first : Q s.peripherals) (reads : (p : Peripherals) (at : ℕ) → Q p → Q (after_read p at))
    (ends : (due : Due) (p : Peripherals) (w : Worked) → Q p → Fits w → P (next_of s due p w)) where
  round_ends : (p : Peripherals) (answers : List ℕ) (go_on : Reading → Processed) → Q p
      → ((r : Reading) → Q r.peripherals → Ends P (go_on r))
      → Ends P (after_round go_on (round_of s p answers memory))
  unfolding round_of answer_of
  round_ends p answers go_on q on = by_outcome (instruction_of (registers_of s.cpu) answers memory) refl
    where
      by_outcome : (o : Outcome) → instruction_of (registers_of s.cpu) answers memory ≡ o
          → Ends P (after_round go_on (round_by s p o))
      by_outcome outcome.Undefined e = tt
      by_outcome (outcome.Asked ask) e = on _ (reads p ask.address q)
      by_outcome (outcome.Done w) e = ends s.due p w q (done_fits (registers_of s.cpu) answers memory w e)

  instruction_ends : (n : ℕ) (p : Peripherals) (answers : List ℕ) → Q p
      → Ends P (instruction_from (Err Undefined) n s p answers memory)
  unfolding instruction_from
  instruction_ends zero p answers q = tt
  instruction_ends (suc n) p answers q =
      round_ends p answers _ q (λ r f. instruction_ends n r.peripherals (answers ++ (r.value ∷ [])) f)

  start_ends : Ends P (start_of s memory)
  unfolding start_of answered_instruction
  start_ends =
      cond_both (Ends P) s.due.reset _ _
      (λ _. rw (reset_answered s memory) (ends _ _ _ first (reset_entry_fits memory (registers_of s.cpu))))
      (λ _. cond_both (Ends P) s.due.nmi _ _
      (λ _. rw (nmi_answered s memory)
      (ends _ _ _ first (interrupt_entry_fits memory nmi_vector (registers_of s.cpu))))
      (λ _. cond_both (Ends P) (irq_due s) _ _
      (λ _. rw (irq_answered s memory)
      (ends _ _ _ first (interrupt_entry_fits memory irq_vector (registers_of s.cpu))))
      (λ _. rw (instruction_answered s memory) (instruction_ends 6 s.peripherals [] first))))

  -- a clock after the first: one less to wait, or the last of a store
  abbrev Less : Type 0
  Less = byte_waits s.cpu.waiting && eqb s.cpu.wait 1 ≡ false → Ends P (wait_less s)

  waited_ends : Less → ((w : Write) → P (byte_put s w)) → (v : Option Write) → s.cpu.waiting ≡ v → Ends P (waited_by s v)
  waited_ends less puts None e = less (rw e refl)
  waited_ends less puts (Some w) e =
      cond_both (Ends P) (eqb s.cpu.wait 1) _ _ (λ _. puts w) (λ f. less (rw (e, f) refl))

  pub processor_ends : Less → ((w : Write) → P (byte_put s w)) → Ends P (without_writes s) → Ends P (processor_of s memory)
  unfolding processor_of
  processor_ends less puts rests =
      cond_both (Ends P) s.last.res _ _
      (λ _. cond_both (Ends P) (ltb 0 s.cpu.wait) _ _ (λ _. waited_ends less puts s.cpu.waiting refl)
      (λ _. start_ends))
      (λ _. rests)

-- "wait minus 1" stays in its range, and above 0 where a byte waits that is not put
pub not_last : (b : Bool) (wait : ℕ) → (b && eqb wait 0) ≡ false → (b && eqb wait 1) ≡ false
    → (b && eqb (wait - 1) 0) ≡ false
not_last true wait h k =
    let some = eqb-false wait 0 h in
    let more = eqb-false wait 1 k in
    ne_eqb (wait - 1) 0 (λ e. omega arith)
not_last false wait h k = refl

fewer_formed : (s : State) → well_formed s ≡ true → byte_waits s.cpu.waiting && eqb s.cpu.wait 1 ≡ false
    → well_formed (with_wait s (s.cpu.wait - 1)) ≡ true
fewer_formed s e h =
    let c = in_cpu s.cpu (formed_cpu s e) in
    let fits = leb-true s.cpu.wait 6 c.wait in
    formed (with_wait s (s.cpu.wait - 1))
    (fit_cpu (at_wait s.cpu (s.cpu.wait - 1)) (record {
      status = c.status;
      wait = le-leb (s.cpu.wait - 1) 6 (omega arith);
      waits = not_last (byte_waits s.cpu.waiting) s.cpu.wait c.waits h;
    }))
    (formed_peripherals s e)

-- every field stays in its range
pub processor_formed : (s : State) (memory : List ℕ) → well_formed s ≡ true
    → Ends (λ n. well_formed n.state ≡ true) (processor_of s memory)
processor_formed s memory e =
    processor_ends s memory (λ p. peripherals_fit p ≡ true) (λ n. well_formed n.state ≡ true) (formed_peripherals s e)
    read_fits
    (λ due p w q f. formed _ (cpu_of_fits w f) (after_fits p (pushes_of w.writing) q))
    (fewer_formed s e) (λ w. put_byte_fits s w e) e

put_clock : (s : State) (w : Write) → (byte_put s w).state.clock ≡ s.clock
unfolding byte_put
put_clock s w = refl

put_count : (s : State) (w : Write) → (byte_put s w).writes.count ≤ 3
unfolding byte_put
put_count s w = omega arith

-- the clock is left alone
pub processor_clock : (s : State) (memory : List ℕ) → Ends (λ n. n.state.clock ≡ s.clock) (processor_of s memory)
processor_clock s memory =
    processor_ends s memory (λ p. Unit {0}) (λ n. n.state.clock ≡ s.clock) tt (λ p a q. tt) (λ due p w q f. refl)
    (λ h. refl) (put_clock s) refl

-- at most three writes
pub processor_writes : (s : State) (memory : List ℕ) → Ends (λ n. n.writes.count ≤ 3) (processor_of s memory)
processor_writes s memory =
    processor_ends s memory (λ p. Unit {0}) (λ n. n.writes.count ≤ 3) tt (λ p a q. tt) (λ due p w q f. f.writes)
    (λ h. omega arith)
    (put_count s) (omega arith)
