-- What an instruction ends with, by its opcode's row and of its accesses themselves: the flags that it keeps, the store
-- that it leaves waiting, and its clocks.
use mathlib.Core.Path.{◌≡◌, refl, sym, ap, ◌∙◌}
use mathlib.Core.Bool.{Bool, true, false, not, false≢true}
use mathlib.Core.List.{List, [], ◌∷◌, ◌++◌}
use Prim.Native.Nat.{ℕ}
use Rattle.bits.proofs.Cond.{cond_both}
use Rattle.cpu_opcodes.specs.declared.Mode.{Mode}
use Rattle.cpu_opcodes.specs.declared.Mode.TheVariants.{Implied, Accumulator, Immediate, ZeroPage, ZeroPageX}
use Rattle.cpu_opcodes.specs.declared.Mode.TheVariants.{ZeroPageY, Absolute, AbsoluteX, AbsoluteY, IndexedIndirect}
use Rattle.cpu_opcodes.specs.declared.Mode.TheVariants.{IndirectIndexed, Indirect, Relative, ZeroPageRelative}
use Rattle.cpu_opcodes.specs.declared.operation.Operation.{Operation}
use Rattle.cpu_opcodes.specs.declared.operation.Operation.TheVariants as operation
use Rattle.cpu_alu.specs.declared.Status.{Status}
use Rattle.cpu_access.specs.declared.CpuRegisters.{CpuRegisters}
use Rattle.cpu_access.specs.declared.stack.Write.{Write}
use Rattle.cpu_access.specs.Stack.{write_at}
use Rattle.cpu_access.specs.Waiting.{byte_waits}
use Rattle.cpu_access.specs.Accesses.{Accesses, ends, reads, writes, ◌>>=◌, RegisterFile, performed}
use Rattle.cpu_access.specs.Accesses.{peripherals_read, peripherals_written}
use Rattle.cpu_modes.specs.ModeAccesses.{Located, located, branch_target}
use Rattle.cpu_kinds.proofs.Flags.{Kept, same_kept, read_keeps, change_keeps, pulled_keeps, register_keeps}
use Rattle.cpu_kinds.proofs.Flags.{flag_keeps}
use Rattle.cpu_operations.proofs.Stores.{stores}
use Rattle.cpu_kinds.specs.Updates.{with_pc}
use Rattle.cpu_kinds.specs.Kinds.{branch_taken, bit_branch_taken}
use Rattle.cpu_access.specs.Bus.{next_address}
use Rattle.cpu.specs.InstructionAccesses.{Conclusion, completion, store_at, modify_accesses, branch_on}
use Rattle.cpu.specs.InstructionAccesses.{bit_branch_accesses}
use Rattle.cpu.specs.InstructionAccesses.{jump_to, push_accesses, pull_accesses, return_accesses}
use Rattle.cpu.specs.InstructionAccesses.{interrupt_return_accesses}
use Rattle.cpu.specs.InstructionAccesses.{entry_accesses, break_accesses, jsr_accesses, past_operand}
use Rattle.cpu.specs.InstructionAccesses.{operation_accesses}

-- ---- whatever is read, of the writes and of the end

abbrev pub EndsIn : {A : Type 0} → (List Write → A → Type 0) → List Write → Accesses A → Type 0
EndsIn P before (ends x) = P before x
EndsIn P before (reads modify a go) = (v : ℕ) → EndsIn P before (go v)
EndsIn P before (writes a v t) = EndsIn P (before ++ (write_at a v ∷ [])) t

pub ends_then : {A B : Type 0} (Q : List Write → A → Type 0) (P : List Write → B → Type 0) (t : Accesses A)
    (next : A → Accesses B) (before : List Write)
    → EndsIn Q before t → ((ws : List Write) (x : A) → Q ws x → EndsIn P ws (next x)) → EndsIn P before (t >>= next)
ends_then Q P (ends x) next before q h = h before x q
ends_then Q P (reads modify a go) next before q h = λ v. ends_then Q P (go v) next before (q v) h
ends_then Q P (writes a v t) next before q h = ends_then Q P t next (before ++ (write_at a v ∷ [])) q h

-- so of what is performed
pub performed_ends : {S A : Type 0} (file : RegisterFile S) (memory : List ℕ) (P : List Write → A → Type 0) (p : S)
    (before : List Write) (t : Accesses A)
    → EndsIn P before t → P (performed file memory p before t).writes (performed file memory p before t).end
unfolding performed
performed_ends file memory P p before (ends x) q = q
performed_ends file memory P p before (reads modify a go) q =
    performed_ends file memory P (peripherals_read file p a) before (go _) (q _)
performed_ends file memory P p before (writes a v t) q =
    performed_ends file memory P (peripherals_written file p a v) (before ++ (write_at a v ∷ [])) t q

-- ---- an operand's place: nothing is written, and it is the accumulator just in that mode

abbrev pub is_accumulator : Mode → Bool
is_accumulator Accumulator = true
is_accumulator mode = false

abbrev pub PlaceIn : Mode → List Write → Located → Type 0
PlaceIn mode ws p = (ws ≡ []) × (p.accumulator ≡ is_accumulator mode)

located_ends : (mode : Mode) (r : CpuRegisters) → EndsIn (PlaceIn mode) [] (located mode r)
unfolding located
located_ends Implied r = (refl, refl)
located_ends Accumulator r = (refl, refl)
located_ends Immediate r = (refl, refl)
located_ends ZeroPage r = λ z. (refl, refl)
located_ends ZeroPageX r = λ z. (refl, refl)
located_ends ZeroPageY r = λ z. (refl, refl)
located_ends Absolute r = λ l h. (refl, refl)
located_ends AbsoluteX r = λ l h. (refl, refl)
located_ends AbsoluteY r = λ l h. (refl, refl)
located_ends IndexedIndirect r = λ z l h. (refl, refl)
located_ends IndirectIndexed r = λ z l h. (refl, refl)
located_ends Indirect r = λ l h a b. (refl, refl)
located_ends Relative r = λ offset. (refl, refl)
located_ends ZeroPageRelative r = λ z. (refl, refl)

-- ---- an operation; s: the flags before, n: the length in its row

-- It keeps each flag whose list in 001, 3.8, does not name it. A store, and a read-modify-write in memory, leaves one
-- byte waiting, pushes nothing, and takes just the n clocks; every other leaves none.
pub record Concludes (o : Operation) (mode : Mode) (n : ℕ) (s : Status) (pushes : List Write) (l : Conclusion) :
    Type 0 where
  pub flags : Kept o s l.registers.status
  pub waits : byte_waits l.waiting ≡ stores o (is_accumulator mode)
  pub alone : stores o (is_accumulator mode) ≡ true → pushes ≡ []
  pub clocks : stores o (is_accumulator mode) ≡ true → l.clocks ≡ n

-- no store
concludes : (o : Operation) (mode : Mode) (n : ℕ) (s : Status) (pushes : List Write) (l : Conclusion)
    → stores o (is_accumulator mode) ≡ false
    → byte_waits l.waiting ≡ false → Kept o s l.registers.status → Concludes o mode n s pushes l
concludes o mode n s pushes l none still kept = record {
  flags = kept;
  waits = still ∙ sym none;
  alone = λ h. absurd (false≢true (sym none ∙ h));
  clocks = λ h. absurd (false≢true (sym none ∙ h));
}

module _ (mode : Mode) (n : ℕ) (r : CpuRegisters) where
  -- what is done at the operand's place
  placed : (o : Operation) (next : Located → Accesses Conclusion)
      → ((ws : List Write) (p : Located) → PlaceIn mode ws p → EndsIn (Concludes o mode n r.status) ws (next p))
      → EndsIn (Concludes o mode n r.status) [] (located mode r >>= next)
  placed o next h =
      ends_then (PlaceIn mode) (Concludes o mode n r.status) (located mode r) next [] (located_ends mode r) h

  branch_concludes : (o : Operation) → stores o (is_accumulator mode) ≡ false
      → (ws : List Write) (p : Located) (after : CpuRegisters)
      → after.status ≡ r.status → (taken : Bool)
      → EndsIn (Concludes o mode n r.status) ws (branch_on n p after taken)
  unfolding branch_on
  branch_concludes o none ws p after e true =
      concludes o mode n r.status ws _ none refl (same_kept o r.status after.status e)
  branch_concludes o none ws p after e false =
      concludes o mode n r.status ws _ none refl (same_kept o r.status after.status e)

  pub operation_concludes : (o : Operation) → EndsIn (Concludes o mode n r.status) [] (operation_accesses o mode n r)
  unfolding operation_accesses completion store_at modify_accesses branch_on bit_branch_accesses jump_to push_accesses
      pull_accesses return_accesses interrupt_return_accesses entry_accesses break_accesses jsr_accesses
  operation_concludes (operation.Read o) =
      placed (operation.Read o) _
      (λ ws p q v. concludes _ mode n r.status ws _ refl refl (read_keeps o (past_operand p r) v))
  operation_concludes (operation.Modify o) = placed (operation.Modify o) _ (λ ws p q.
      cond_both (EndsIn (Concludes (operation.Modify o) mode n r.status) ws) p.accumulator _ _
      (λ t. concludes _ mode n r.status ws _ (ap not (sym q.1 ∙ t)) refl (change_keeps o r.a r.status))
      (λ t v. record {
        flags = change_keeps o v r.status;
        waits = sym (ap not (sym q.1 ∙ t));
        alone = λ h. q.0;
        clocks = λ h. refl;
      }))
  operation_concludes (operation.Store o) = placed (operation.Store o) _ (λ ws p q.
      record { flags = same_kept _ r.status r.status refl; waits = refl; alone = λ h. q.0; clocks = λ h. refl })
  operation_concludes (operation.Branch o) =
      placed (operation.Branch o) _
      (λ ws p q. branch_concludes (operation.Branch o) refl ws p (past_operand p r) refl (branch_taken o r.status))
  operation_concludes (operation.BitBranch o) = placed (operation.BitBranch o) _ (λ ws p q v offset.
      branch_concludes (operation.BitBranch o) refl ws (branch_target offset (next_address p.pc))
      (with_pc (next_address p.pc) r) refl (bit_branch_taken o v))
  operation_concludes (operation.Push o) =
      placed (operation.Push o) _
      (λ ws p q. concludes _ mode n r.status _ _ refl refl (same_kept _ r.status r.status refl))
  operation_concludes (operation.Pull o) =
      placed (operation.Pull o) _ (λ ws p q v. concludes _ mode n r.status ws _ refl refl (pulled_keeps o _ v))
  operation_concludes (operation.Register o) =
      placed (operation.Register o) _
      (λ ws p q. concludes _ mode n r.status ws _ refl refl (register_keeps o (past_operand p r)))
  operation_concludes (operation.Flag o) =
      placed (operation.Flag o) _ (λ ws p q. concludes _ mode n r.status ws _ refl refl (flag_keeps o r.status))
  operation_concludes operation.Brk = placed operation.Brk _ (λ ws p q l h.
      concludes _ mode n r.status _ _ refl refl
      (record { n = refl; v = refl; d = refl; i = tt; z = refl; c = refl }))
  operation_concludes operation.Jmp =
      placed operation.Jmp _
      (λ ws p q. concludes _ mode n r.status ws _ refl refl (same_kept _ r.status r.status refl))
  operation_concludes operation.Jsr =
      λ l h. concludes _ mode n r.status _ _ refl refl (same_kept _ r.status r.status refl)
  operation_concludes operation.Nop =
      placed operation.Nop _
      (λ ws p q. concludes _ mode n r.status ws _ refl refl (same_kept _ r.status r.status refl))
  operation_concludes operation.Rti = placed operation.Rti _ (λ ws p q v l h.
      concludes _ mode n r.status ws _ refl refl (record { n = tt; v = tt; d = tt; i = tt; z = tt; c = tt }))
  operation_concludes operation.Rts =
      placed operation.Rts _
      (λ ws p q l h. concludes _ mode n r.status ws _ refl refl (same_kept _ r.status r.status refl))
