-- 01, stop 6, "the next clock would start an undefined opcode": an instruction is undefined just where the opcode at PC
-- is, and the CPU's part of a clock has no other stop.
use Rattle.std.specs.Prelude.{None, Option, Some}
use mathlib.Core.Path.{◌≡◌, refl, sym, ap, subst, ◌∙◌}
use mathlib.Core.List.{List, []}
use Prim.Native.Nat.{ℕ}
use lib.Dec.{ltb, eqb}
use Rattle.std.specs.Prelude.{Option, Some, None, Ok, Err}
use Rattle.bits.proofs.Cond.{cond_both}
use Rattle.stops.specs.declared.Stop.{Stop}
use Rattle.stops.specs.declared.Stop.TheVariants.{Undefined}
use Rattle.cpu_opcodes.specs.Decode.{decode_of}
use Rattle.cpu_opcodes.specs.declared.Entry.{Entry}
use Rattle.r6501q_state.specs.declared.state.Peripherals.{Peripherals}
use Rattle.r6501q_state.specs.declared.state.State.{State}
use Rattle.cpu_access.specs.declared.stack.Write.{Write}
use Rattle.cpu_access.specs.Accesses.{Accesses, ends, reads, writes, ◌>>=◌, RegisterFile, byte_after, peripherals_read}
use Rattle.cpu_access.specs.Accesses.{value_read, performed}
use Rattle.cpu_access.specs.Bus.{next_address}
use Rattle.cpu_effects.specs.Effects.{with_pc}
use Rattle.cpu.specs.InstructionAccesses.{Conclusion, Ending, undefined, leaves, operation_accesses}
use Rattle.cpu.specs.InstructionAccesses.{opcode_accesses}
use Rattle.cpu.specs.InstructionAccesses.{instruction_accesses}
use Rattle.r6501q_cpu.specs.Processor.{Processed, registers_of, register_file, performed_in, processed_by, processed_after}
use Rattle.r6501q_cpu.specs.Processor.{whole_instruction, opcode_at, irq_due, start_of, waited_by, processor_of}

-- an instruction after its opcode
abbrev pub decoded_by : State → List ℕ → Option Entry → Processed
decoded_by s memory d =
    processed_after s (performed (register_file s.last.ports) memory
    (peripherals_read (register_file s.last.ports) s.peripherals s.cpu.pc) []
    (opcode_accesses (with_pc (next_address s.cpu.pc) (registers_of s.cpu)) d))

-- it goes by the opcode at PC
pub by_opcode : (s : State) (memory : List ℕ)
    → whole_instruction s memory ≡ decoded_by s memory (decode_of (opcode_at s memory))
unfolding whole_instruction instruction_accesses performed value_read byte_after opcode_at
by_opcode s memory = refl

-- an instruction whose opcode is undefined is undefined
pub undefined_opcode : (s : State) (memory : List ℕ) → decode_of (opcode_at s memory) ≡ None
    → whole_instruction s memory ≡ Err Undefined
unfolding performed
undefined_opcode s memory e = by_opcode s memory ∙ ap (decoded_by s memory) e

-- what leaves something, performed, ends with what it leaves
module _ {P : Type 0} (file : RegisterFile P) (memory : List ℕ) where
  ends_leaving : (t : Accesses Conclusion) (p : P) (before : List Write)
      → (performed file memory p before (t >>= (λ l. ends (leaves l)))).end
      ≡ leaves (performed file memory p before t).end
  unfolding performed
  ends_leaving (ends l) p before = refl
  ends_leaving (reads modify a go) p before = ends_leaving (go _) _ before
  ends_leaving (writes a v t) p before = ends_leaving t _ _

-- what is not undefined
abbrev Concluded : Processed → Type 0
Concluded (Err stop) = ⊥
Concluded (Ok n) = Unit {0}

concluded : (s : State) (p : Peripherals) (pushes : List Write) (x : Ending) (l : Conclusion) → x ≡ leaves l
    → Concluded (processed_by s p pushes x)
concluded s p pushes x l e = rw e tt

-- an instruction whose opcode is defined is not undefined
pub defined_opcode :
    (s : State) (memory : List ℕ) (e : Entry) (stop : Stop) → decode_of (opcode_at s memory) ≡ Some e
    → whole_instruction s memory ≡ Err stop → ⊥
defined_opcode s memory e stop defined same =
    let file = register_file s.last.ports in
    let t =
    operation_accesses e.operation e.mode e.length (with_pc (next_address s.cpu.pc) (registers_of s.cpu)) in
    let done : Concluded (decoded_by s memory (Some e)) =
    concluded s _ _ _ _ (ends_leaving file memory t (peripherals_read file s.peripherals s.cpu.pc) []) in
    subst Concluded (sym (ap (decoded_by s memory) defined) ∙ sym (by_opcode s memory) ∙ same) done

-- a stop is that of an undefined opcode
abbrev StopsUndefined : Processed → Type 0
StopsUndefined (Err stop) = stop ≡ Undefined
StopsUndefined (Ok n) = Unit {0}

instruction_stop : (s : State) (p : Peripherals) (pushes : List Write) (x : Ending)
    → StopsUndefined (processed_by s p pushes x)
instruction_stop s p pushes undefined = refl
instruction_stop s p pushes (leaves l) = tt

start_stop : (s : State) (memory : List ℕ) → StopsUndefined (start_of s memory)
unfolding start_of whole_instruction
start_stop s memory =
    let x = performed_in s memory (instruction_accesses (registers_of s.cpu)) in
    cond_both StopsUndefined s.due.reset _ _ (λ _. tt)
    (λ _. cond_both StopsUndefined s.due.nmi _ _ (λ _. tt)
    (λ _. cond_both StopsUndefined (irq_due s) _ _ (λ _. tt)
    (λ _. instruction_stop s x.peripherals x.writes x.end)))

waited_stop : (s : State) (w : Option Write) → StopsUndefined (waited_by s w)
waited_stop s None = tt
waited_stop s (Some w) = cond_both StopsUndefined (eqb s.cpu.wait 1) _ _ (λ _. tt) (λ _. tt)

pub processor_stop : (s : State) (memory : List ℕ) (stop : Stop) → processor_of s memory ≡ Err stop
    → stop ≡ Undefined
unfolding processor_of
processor_stop s memory stop e =
    subst StopsUndefined e
    (cond_both StopsUndefined s.last.res _ _
    (λ _. cond_both StopsUndefined (ltb 0 s.cpu.wait) _ _ (λ _. waited_stop s s.cpu.waiting)
    (λ _. start_stop s memory))
    (λ _. tt))
