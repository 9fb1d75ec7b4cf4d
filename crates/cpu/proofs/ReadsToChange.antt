-- 001, 4.1, of an instruction's accesses themselves: just the eight read a byte to change it, once, and none in the
-- accumulator.
use mathlib.Core.Path.{◌≡◌, refl, sym}
use mathlib.Core.Bool.{Bool, true, false, ◌&&◌, not, cond, false≢true}
use Prim.Native.Nat.{ℕ}
use Rattle.std.specs.Prelude.{Some}
use Rattle.cpu_opcodes.specs.declared.Entry.{Entry}
use Rattle.cpu_opcodes.specs.declared.Mode.{Mode}
use Rattle.cpu_opcodes.specs.declared.Mode.TheVariants.{Implied, Accumulator, Immediate, ZeroPage, ZeroPageX}
use Rattle.cpu_opcodes.specs.declared.Mode.TheVariants.{ZeroPageY, Absolute, AbsoluteX, AbsoluteY, IndexedIndirect}
use Rattle.cpu_opcodes.specs.declared.Mode.TheVariants.{IndirectIndexed, Indirect, Relative, ZeroPageRelative}
use Rattle.cpu_opcodes.specs.declared.operation.Operation.{Operation}
use Rattle.cpu_opcodes.specs.declared.operation.Operation.TheVariants as operation
use Rattle.cpu_opcodes.specs.Decode.{decode_of}
use Rattle.cpu_access.specs.declared.CpuRegisters.{CpuRegisters}
use Rattle.cpu_access.specs.Accesses.{Accesses, ends, reads, writes, ◌>>=◌}
use Rattle.cpu_modes.specs.ModeAccesses.{Located, located}
use Rattle.cpu_kinds.proofs.Flags.{listed}
use Rattle.cpu_operations.specs.Operations.{access_of}
use Rattle.cpu_operations.proofs.Stores.{modifies, read_modify_write, just_eight}
use Rattle.cpu.specs.InstructionAccesses.{Conclusion, completion, store_at, modify_accesses, branch_on}
use Rattle.cpu.specs.InstructionAccesses.{bit_branch_accesses}
use Rattle.cpu.specs.InstructionAccesses.{jump_to, push_accesses, pull_accesses, return_accesses}
use Rattle.cpu.specs.InstructionAccesses.{interrupt_return_accesses}
use Rattle.cpu.specs.InstructionAccesses.{entry_accesses, break_accesses, jsr_accesses}
use Rattle.cpu.specs.InstructionAccesses.{operation_accesses}
use Rattle.cpu.proofs.Conclusions.{is_accumulator}

-- no byte is read to be changed, whatever is read, and P holds of what comes of the accesses
abbrev pub NoneToChange : {A : Type 0} → (A → Type 0) → Accesses A → Type 0
NoneToChange P (ends x) = P x
NoneToChange P (reads modify a go) = (modify ≡ false) × ((v : ℕ) → NoneToChange P (go v))
NoneToChange P (writes a v t) = NoneToChange P t

-- just one is, or none
abbrev pub ToChange : {A : Type 0} → Bool → Accesses A → Type 0
ToChange false t = NoneToChange (λ _. Unit) t
ToChange true (ends x) = false ≡ true
ToChange true (reads true a go) = (v : ℕ) → NoneToChange (λ _. Unit) (go v)
ToChange true (reads false a go) = (v : ℕ) → ToChange true (go v)
ToChange true (writes a v t) = ToChange true t

change_then : {A B : Type 0} (b : Bool) (P : A → Type 0) (t : Accesses A) (next : A → Accesses B)
    → NoneToChange P t → ((x : A) → P x → ToChange b (next x)) → ToChange b (t >>= next)
change_then b P (ends x) next q h = h x q
change_then false P (reads modify a go) next q h = (q.0, λ v. change_then false P (go v) next (q.1 v) h)
change_then true P (reads true a go) next q h = absurd (false≢true (sym q.0))
change_then true P (reads false a go) next q h = λ v. change_then true P (go v) next (q.1 v) h
change_then false P (writes a v t) next q h = change_then false P t next q h
change_then true P (writes a v t) next q h = change_then true P t next q h

-- finding an operand changes nothing
abbrev PlaceOf : Mode → Located → Type 0
PlaceOf mode p = p.accumulator ≡ is_accumulator mode

located_none : (mode : Mode) (r : CpuRegisters) → NoneToChange (PlaceOf mode) (located mode r)
unfolding located
located_none Implied r = refl
located_none Accumulator r = refl
located_none Immediate r = refl
located_none ZeroPage r = (refl, λ z. refl)
located_none ZeroPageX r = (refl, λ z. refl)
located_none ZeroPageY r = (refl, λ z. refl)
located_none Absolute r = (refl, λ l. (refl, λ h. refl))
located_none AbsoluteX r = (refl, λ l. (refl, λ h. refl))
located_none AbsoluteY r = (refl, λ l. (refl, λ h. refl))
located_none IndexedIndirect r = (refl, λ z. (refl, λ l. (refl, λ h. refl)))
located_none IndirectIndexed r = (refl, λ z. (refl, λ l. (refl, λ h. refl)))
located_none Indirect r = (refl, λ l. (refl, λ h. (refl, λ a. (refl, λ b. refl))))
located_none Relative r = (refl, λ offset. refl)
located_none ZeroPageRelative r = (refl, λ z. refl)

module _ (mode : Mode) (n : ℕ) (r : CpuRegisters) where
  placed : (b : Bool) (next : Located → Accesses Conclusion)
      → ((p : Located) → PlaceOf mode p → ToChange b (next p)) → ToChange b (located mode r >>= next)
  placed b next h = change_then b (PlaceOf mode) (located mode r) next (located_none mode r) h

  in_memory : (b : Bool) (x : Conclusion) (a : ℕ) (f : ℕ → Conclusion)
      → ToChange (not b) (cond b (ends x) (reads true a (λ (v : ℕ). ends (f v))))
  in_memory true x a f = tt
  in_memory false x a f = λ v. tt

  pub reads_to_change : (o : Operation)
      → ToChange (modifies (access_of o) && not (is_accumulator mode)) (operation_accesses o mode n r)
  unfolding operation_accesses completion store_at modify_accesses branch_on bit_branch_accesses jump_to push_accesses
      pull_accesses return_accesses interrupt_return_accesses entry_accesses break_accesses jsr_accesses
  reads_to_change (operation.Read o) = placed false _ (λ p q. (refl, λ v. tt))
  reads_to_change (operation.Modify o) =
      placed (not (is_accumulator mode)) _ (λ p q. rw (← q) (in_memory p.accumulator _ _ _))
  reads_to_change (operation.Store o) = placed false _ (λ p q. tt)
  reads_to_change (operation.Branch o) = placed false _ (λ p q. tt)
  reads_to_change (operation.BitBranch o) = placed false _ (λ p q. (refl, λ v. (refl, λ offset. tt)))
  reads_to_change (operation.Push o) = placed false _ (λ p q. tt)
  reads_to_change (operation.Pull o) = placed false _ (λ p q. (refl, λ v. tt))
  reads_to_change (operation.Register o) = placed false _ (λ p q. tt)
  reads_to_change (operation.Flag o) = placed false _ (λ p q. tt)
  reads_to_change operation.Brk = placed false _ (λ p q. (refl, λ l. (refl, λ h. tt)))
  reads_to_change operation.Jmp = placed false _ (λ p q. tt)
  reads_to_change operation.Jsr = (refl, λ l. (refl, λ h. tt))
  reads_to_change operation.Nop = placed false _ (λ p q. tt)
  reads_to_change operation.Rti = placed false _ (λ p q. (refl, λ v. (refl, λ l. (refl, λ h. tt))))
  reads_to_change operation.Rts = placed false _ (λ p q. (refl, λ l. (refl, λ h. tt)))

-- of each defined opcode, by the list of 001, 4.1
pub just_eight_read_to_change : (o : ℕ) (e : Entry) (r : CpuRegisters) → decode_of o ≡ Some e
    → ToChange (listed read_modify_write e.operation && not (is_accumulator e.mode))
    (operation_accesses e.operation e.mode e.length r)
just_eight_read_to_change o e r d = rw (← just_eight o e d) (reads_to_change e.mode e.length r e.operation)
