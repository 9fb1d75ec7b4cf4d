-- 02, U6: a store begins on its first clock and writes nothing; its byte waits, and is put on its last clock alone.
-- What an instruction begins with, of its direct definition.
use Rattle.std.specs.Prelude.{None, Option, Some}
use mathlib.Core.Path.{◌≡◌, refl, ap, ◌∙◌}
use mathlib.Core.Bool.{Bool, true, false, ◌&&◌, cond}
use mathlib.Core.List.{List, []}
use Prim.Native.Nat.{ℕ, ◌-◌, ◌≤◌, ◌<◌}
use native.Mathlib.Omega.{arith}
use lib.Dec.{ltb, eqb}
use borrow.Author.Tests.{lt-ltb, le-ltb, eq-eqb}
use Rattle.std.specs.Prelude.{Option, Some}
use Rattle.bits.proofs.Cond.{cond_yes, cond_no}
use Rattle.cpu_opcodes.specs.Decode.{decode_of}
use Rattle.cpu_opcodes.specs.declared.Entry.{Entry}
use Rattle.cpu_alu.specs.Status.{unpacked}
use Rattle.cpu_alu.specs.declared.Status.{Status}
use Rattle.cpu_access.specs.declared.stack.Write.{Write}
use Rattle.cpu_access.specs.Stack.{no_writes}
use Rattle.cpu_access.specs.Waiting.{byte_waits}
use Rattle.cpu_access.specs.Accesses.{ends, byte_after, peripherals_read, value_read, Performed, performed, in_order}
use Rattle.cpu_access.specs.Bus.{next_address}
use Rattle.cpu_effects.specs.Effects.{with_pc}
use Rattle.cpu_kinds.proofs.Flags.{Kept}
use Rattle.cpu.specs.InstructionAccesses.{Conclusion, Ending, leaves, operation_accesses, opcode_accesses}
use Rattle.cpu.specs.InstructionAccesses.{instruction_accesses}
use Rattle.cpu.proofs.Laws.{stores_of, entry_fits}
use Rattle.cpu.proofs.Conclusions.{Concludes, ends_then, performed_ends, operation_concludes}
use Rattle.r6501q_state.specs.declared.state.Peripherals.{Peripherals}
use Rattle.r6501q_state.specs.declared.state.State.{State}
use Rattle.r6501q_cpu.specs.declared.Next.{Next}
use Rattle.std.specs.Prelude.{Ok}
use Rattle.r6501q_cpu.specs.Processor.{Processed}
use Rattle.r6501q_cpu.specs.Processor.{registers_of, cpu_of, register_file, performed_in, next_after, processed_by}
use Rattle.r6501q_cpu.specs.Processor.{whole_instruction, opcode_at, irq_due, start_of, without_writes, wait_less}
use Rattle.r6501q_cpu.specs.Processor.{byte_put, waited_by, processor_of}
use Rattle.r6501q_cpu.proofs.Undefined.{decoded_by, by_opcode}

-- ---- the first clock

-- an end that leaves something, by its opcode's row e; s: the flags before
record Concluding (e : Entry) (s : Status) (pushes : List Write) (x : Ending) : Type 0 where
  conclusion : Conclusion
  is : x ≡ leaves conclusion
  so : Concludes e.operation e.mode e.length s pushes conclusion

-- The first clock of the instruction with the row e. The CPU is left with what the accesses, performed, end with: its
-- flags are kept by the lists of 001, 3.8; a byte waits just where it is a store, or a read-modify-write in memory, and
-- then nothing is written, and it waits for the rest of its row's clocks, two at least.
pub record Begun (s : State) (memory : List ℕ) (e : Entry) (x : Processed) : Type 0 where
  pub next : Next
  pub done : x ≡ Ok next
  pub conclusion : Conclusion
  pub ended : (performed_in s memory (instruction_accesses (registers_of s.cpu))).end ≡ leaves conclusion
  pub cpu : next.state.cpu ≡ cpu_of conclusion.registers (conclusion.clocks - 1) conclusion.waiting
  pub flags : Kept e.operation (unpacked s.cpu.p) conclusion.registers.status
  pub waits : byte_waits conclusion.waiting ≡ stores_of e
  pub writes : stores_of e ≡ true → next.writes ≡ no_writes
  pub wait : stores_of e ≡ true → next.state.cpu.wait ≡ e.length - 1
  pub least : stores_of e ≡ true → 2 ≤ next.state.cpu.wait

-- the accesses after the opcode's
accesses_after : (s : State) (memory : List ℕ)
    → performed_in s memory (instruction_accesses (registers_of s.cpu))
    ≡ performed (register_file s.last.ports) memory
    (peripherals_read (register_file s.last.ports) s.peripherals s.cpu.pc) []
    (opcode_accesses (with_pc (next_address s.cpu.pc) (registers_of s.cpu)) (decode_of (opcode_at s memory)))
unfolding instruction_accesses performed value_read byte_after opcode_at
accesses_after s memory = refl

pub instruction_begun : (s : State) (memory : List ℕ) (e : Entry) → decode_of (opcode_at s memory) ≡ Some e
    → Begun s memory e (whole_instruction s memory)
unfolding in_order
instruction_begun s memory e d =
    let file = register_file s.last.ports in
    let p = peripherals_read file s.peripherals s.cpu.pc in
    let r = with_pc (next_address s.cpu.pc) (registers_of s.cpu) in
    let t = operation_accesses e.operation e.mode e.length r in
    let whole = opcode_accesses r (Some e) in
    let x : Performed Peripherals Ending = performed file memory p [] whole in
    let concluding : Concluding e r.status x.writes x.end =
    performed_ends file memory (Concluding e r.status) p [] whole
    (ends_then (Concludes e.operation e.mode e.length r.status) (Concluding e r.status) t
    (λ l. ends (leaves l)) []
    (operation_concludes e.mode e.length r e.operation)
    (λ ws l so. record { conclusion = l; is = refl; so = so })) in
    let l = concluding.conclusion in
    let c = concluding.so in
    let fits = entry_fits (opcode_at s memory) e d in
    record {
      next = next_after s s.due (record { end = l; peripherals = x.peripherals; writes = x.writes });
      done =
          by_opcode s memory ∙ ap (decoded_by s memory) d ∙ ap (processed_by s x.peripherals x.writes)
          concluding.is;
      conclusion = l;
      ended =
          ap (λ (y : Performed Peripherals Ending). y.end)
          (accesses_after s memory ∙ ap (λ (y : Option Entry). performed file memory p [] (opcode_accesses r y)) d)
          ∙ concluding.is;
      cpu = refl;
      flags = c.flags;
      waits = c.waits;
      writes = λ h. ap in_order (c.alone h);
      wait = λ h. ap (λ (n : ℕ). n - 1) (c.clocks h);
      least = λ h. let n = c.clocks h in let least = fits.store h in omega (arith, n, least);
    }

-- the CPU starts, with nothing due: it is an instruction
pub instruction_starts : (t : State) (memory : List ℕ) → t.last.res ≡ true → t.cpu.wait ≡ 0 → t.due.reset ≡ false
    → t.due.nmi ≡ false
    → irq_due t ≡ false → processor_of t memory ≡ whole_instruction t memory
unfolding processor_of start_of
instruction_starts t memory high over reset nmi irq =
    pick t.last.res (ltb 0 t.cpu.wait) t.due.reset t.due.nmi (irq_due t) _ _ _ _ _ _ high
    (le-ltb 0 t.cpu.wait (omega arith)) reset nmi irq
  where
    pick : (h z r m q : Bool) (a b c d e f : Processed) → h ≡ true → z ≡ false → r ≡ false → m ≡ false → q ≡ false
        → cond h (cond z a (cond r b (cond m c (cond q d e)))) f ≡ e
    pick h z r m q a b c d e f eh ez er em eq = rw (eh, ez, er, em, eq)

-- ---- the clocks after it

module _ (s : State) (memory : List ℕ) (high : s.last.res ≡ true) (some : 0 < s.cpu.wait) where
  pub clock_waits : processor_of s memory ≡ waited_by s s.cpu.waiting
  unfolding processor_of
  clock_waits = cond_yes s.last.res _ _ high ∙ cond_yes (ltb 0 s.cpu.wait) _ _ (lt-ltb 0 s.cpu.wait some)

-- where no byte is put, it is one less to wait, and nothing is written
pub waited_less : (s : State) → (byte_waits s.cpu.waiting && eqb s.cpu.wait 1) ≡ false
    → waited_by s s.cpu.waiting ≡ wait_less s
waited_less s h = by_waiting s.cpu.waiting h
  where
    by_waiting : (v : Option Write) → (byte_waits v && eqb s.cpu.wait 1) ≡ false → waited_by s v ≡ wait_less s
    by_waiting None e = refl
    by_waiting (Some w) e = cond_no (eqb s.cpu.wait 1) _ _ e

-- the last clock: the byte is put, on the state that steps 1 to 3 leave, and it is all that is written
pub byte_put_lem : (s : State) (memory : List ℕ) (w : Write) → s.last.res ≡ true → s.cpu.wait ≡ 1
    → s.cpu.waiting ≡ Some w
    → processor_of s memory ≡ Ok (byte_put s w)
byte_put_lem s memory w high last waits =
    clock_waits s memory high (omega arith) ∙ ap (waited_by s) waits
    ∙ cond_yes (eqb s.cpu.wait 1) _ _ (eq-eqb s.cpu.wait 1 last)

-- with RES low nothing is written
pub held_writes : (s : State) (memory : List ℕ) → s.last.res ≡ false → processor_of s memory ≡ without_writes s
unfolding processor_of
held_writes s memory low = cond_no s.last.res _ _ low
