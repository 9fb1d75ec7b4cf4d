-- Which operations are read-modify-write, and which leave a store: stores, and those on a byte in memory.
use mathlib.Core.Path.{◌≡◌, refl}
use mathlib.Core.Bool.{Bool, true, false, not, beq, false≢true}
use mathlib.Core.List.{List, [], ◌∷◌}
use Prim.Native.Nat.{ℕ}
use lib.Dec.{T}
use Rattle.std.specs.Prelude.{Some}
use Rattle.bits.proofs.Cond.{equal}
use Rattle.cpu_opcodes.specs.InstructionSet.{rows}
use Rattle.cpu_opcodes.specs.Decode.{decode_of}
use Rattle.cpu_opcodes.specs.declared.Entry.{Entry}
use Rattle.cpu_opcodes.proofs.Laws.{looked_up}
use Rattle.cpu_opcodes.specs.declared.operation.Operation.{Operation}
use Rattle.cpu_opcodes.specs.declared.operation.Operation.TheVariants as operation
use Rattle.cpu_opcodes.specs.declared.operation.ModifyOperation.TheVariants.{Asl, Dec, Inc, Lsr, Rol, Ror, Rmb, Smb}
use Rattle.cpu_alu.specs.declared.Computed.{Computed}
use Rattle.cpu_access.specs.declared.CpuRegisters.{CpuRegisters}
use Rattle.cpu_access.specs.Bus.{fetch_of}
use Rattle.cpu_modes.specs.Modes.{relative_to}
use Rattle.cpu_operations.specs.declared.Access.{Access}
use Rattle.cpu_operations.specs.declared.Access.TheVariants as access
use Rattle.cpu_effects.specs.Operand.{Operand}
use Rattle.cpu_effects.specs.declared.Worked.{Worked}
use Rattle.cpu_effects.specs.declared.Writing.{Writing}
use Rattle.cpu_effects.specs.declared.Writing.TheVariants.{Nothing, Pushed, Stored}
use Rattle.cpu_kinds.specs.Updates.{with_pc}
use Rattle.cpu_effects.specs.Effects.{completed, stored, modified, branched, branch_operand, bit_branched}
use Rattle.cpu_effects.specs.Effects.{jumped, pushed_byte, pulled_byte, returned, returned_from_interrupt}
use Rattle.cpu_effects.specs.Effects.{interrupted, break_taken}
use Rattle.cpu_operations.specs.Operations.{access_of, operate_of}
use Rattle.cpu_kinds.proofs.Flags.{listed}

-- 001, 4.1: "Read/Modify/Write instructions are: ASL, DEC, INC, LSR, RMB, ROL, ROR, and SMB."
abbrev pub read_modify_write : List Operation
read_modify_write =
    operation.Modify Asl ∷ operation.Modify Dec ∷ operation.Modify Inc ∷ operation.Modify Lsr ∷ operation.Modify (Rmb 0)
    ∷ operation.Modify Rol
    ∷ operation.Modify Ror ∷ operation.Modify (Smb 0) ∷ []

abbrev pub modifies : Access → Bool
modifies access.Nothing = false
modifies access.Read = false
modifies access.Modify = true
modifies access.Jsr = false

eight_modify : Entry → Bool
eight_modify e = beq (modifies (access_of e.operation)) (listed read_modify_write e.operation)

-- of all instructions just these eight read a byte to change it, and so a port's latch
pub just_eight : (o : ℕ) (e : Entry) → decode_of o ≡ Some e
    → modifies (access_of e.operation) ≡ listed read_modify_write e.operation
unfolding decode_of eight_modify
just_eight o e h =
    let t : T (eight_modify e) = rw h at (looked_up eight_modify o rows tt) in
    equal (modifies (access_of e.operation)) (listed read_modify_write e.operation) t

-- one store, and so no push
abbrev pub is_store : Writing → Bool
is_store Nothing = false
is_store (Pushed w) = false
is_store (Stored x) = true

-- accumulator: the operand is the accumulator and not in memory
abbrev pub stores : Operation → Bool → Bool
stores (operation.Read p) accumulator = false
stores (operation.Modify p) accumulator = not accumulator
stores (operation.Store p) accumulator = true
stores (operation.Branch p) accumulator = false
stores (operation.BitBranch p) accumulator = false
stores (operation.Push p) accumulator = false
stores (operation.Pull p) accumulator = false
stores (operation.Register p) accumulator = false
stores (operation.Flag p) accumulator = false
stores operation.Brk accumulator = false
stores operation.Jmp accumulator = false
stores operation.Jsr accumulator = false
stores operation.Nop accumulator = false
stores operation.Rti accumulator = false
stores operation.Rts accumulator = false

-- whether what is left is a store; one takes just the n clocks of its opcode's entry
pub record Stores (b : Bool) (n : ℕ) (w : Worked) : Type 0 where
  pub stored : is_store w.writing ≡ b
  pub clocks : b ≡ true → w.length ≡ n

modified_stores : (o : Operand) (r : CpuRegisters) (k : Computed) (a : Bool) → o.accumulator ≡ a
    → Stores (not a) o.length (modified o r k).worked
unfolding modified stored
modified_stores o r k true e = rw e (record { stored = refl; clocks = λ h. refl })
modified_stores o r k false e = rw e (record { stored = refl; clocks = λ h. refl })

branched_stores : (o : Operand) (r : CpuRegisters) (taken : Bool) (n : ℕ) → Stores false n (branched o r taken).worked
unfolding branched
branched_stores o r true n = record { stored = refl; clocks = λ h. absurd (false≢true h) }
branched_stores o r false n = record { stored = refl; clocks = λ h. absurd (false≢true h) }

module _ (answers memory : List ℕ) where
  bit_branched_stores : (o : Operand) (r : CpuRegisters) (taken : Bool)
      → Stores false o.length (bit_branched answers memory o r taken).worked
  unfolding bit_branched
  bit_branched_stores o r taken =
      let p = relative_to (fetch_of answers memory r.pc o.bus) in
      branched_stores (branch_operand o p) (with_pc p.pc r) taken o.length

  -- stores, and the read-modify-write operations in memory, leave one store and no push; all others leave no store
  pub operate_stores : (p : Operation) (r : CpuRegisters) (o : Operand)
      → Stores (stores p o.accumulator) o.length (operate_of answers memory p r o).worked
  unfolding operate_of completed stored jumped pushed_byte pulled_byte returned returned_from_interrupt interrupted
      break_taken
  operate_stores (operation.Read p) r o = record { stored = refl; clocks = λ h. absurd (false≢true h) }
  operate_stores (operation.Modify p) r o = modified_stores o r _ o.accumulator refl
  operate_stores (operation.Store p) r o = record { stored = refl; clocks = λ h. refl }
  operate_stores (operation.Branch p) r o = branched_stores o r _ o.length
  operate_stores (operation.BitBranch p) r o = bit_branched_stores o r _
  operate_stores (operation.Push p) r o = record { stored = refl; clocks = λ h. absurd (false≢true h) }
  operate_stores (operation.Pull p) r o = record { stored = refl; clocks = λ h. absurd (false≢true h) }
  operate_stores (operation.Register p) r o = record { stored = refl; clocks = λ h. absurd (false≢true h) }
  operate_stores (operation.Flag p) r o = record { stored = refl; clocks = λ h. absurd (false≢true h) }
  operate_stores operation.Brk r o = record { stored = refl; clocks = λ h. absurd (false≢true h) }
  operate_stores operation.Jmp r o = record { stored = refl; clocks = λ h. absurd (false≢true h) }
  operate_stores operation.Jsr r o = record { stored = refl; clocks = λ h. absurd (false≢true h) }
  operate_stores operation.Nop r o = record { stored = refl; clocks = λ h. absurd (false≢true h) }
  operate_stores operation.Rti r o = record { stored = refl; clocks = λ h. absurd (false≢true h) }
  operate_stores operation.Rts r o = record { stored = refl; clocks = λ h. absurd (false≢true h) }
