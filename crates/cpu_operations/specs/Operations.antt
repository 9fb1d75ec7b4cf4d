-- What each operation does (001, appendix A), by kind: with the byte at its operand's address, and what it leaves.
use Rattle.std.specs.Prelude.{Bool, true, false, List, ℕ}
use Rattle.cpu_opcodes.specs.declared.operation.Operation.{Operation}
use Rattle.cpu_opcodes.specs.declared.operation.Operation.TheVariants as operation
use Rattle.cpu_access.specs.declared.CpuRegisters.{CpuRegisters}
use Rattle.cpu_effects.specs.Operand.{Operand}
use Rattle.cpu_effects.specs.declared.Executed.{Executed}
use Rattle.cpu_operations.specs.declared.Access.{Access}
use Rattle.cpu_operations.specs.declared.Access.TheVariants.{Nothing, Read, Modify, Jsr}
use Rattle.cpu_kinds.specs.Updates.{with_status}
use Rattle.cpu_kinds.specs.Kinds.{with_read, changed_by, byte_to_store, branch_taken, bit_branch_taken, byte_to_push}
use Rattle.cpu_kinds.specs.Kinds.{with_register, with_flag}
use Rattle.cpu_effects.specs.Effects.{completed, stored, modified, branched, bit_branched, jumped, pushed_byte}
use Rattle.cpu_effects.specs.Effects.{pulled_byte, returned, returned_from_interrupt, break_taken}

-- how an operation reads the byte at its operand's address: not at all (a store only writes it), as it is, or to change
-- it and write it back; JSR reads its operand itself
abbrev pub access_of : Operation → Access
access_of (operation.Read o) = Read
access_of (operation.Modify o) = Modify
access_of (operation.Store o) = Nothing
access_of (operation.Branch o) = Nothing
access_of (operation.BitBranch o) = Read
access_of (operation.Push o) = Nothing
access_of (operation.Pull o) = Nothing
access_of (operation.Register o) = Nothing
access_of (operation.Flag o) = Nothing
access_of operation.Brk = Nothing
access_of operation.Jmp = Nothing
access_of operation.Jsr = Jsr
access_of operation.Nop = Nothing
access_of operation.Rti = Nothing
access_of operation.Rts = Nothing

abbrev pub is_jsr : Access → Bool
is_jsr Nothing = false
is_jsr Read = false
is_jsr Modify = false
is_jsr Jsr = true

-- r has PC behind the operand bytes. Of JSR's own work this is no part: see jsr_outcome.
unfoldable pub operate_of : List ℕ → List ℕ → Operation → CpuRegisters → Operand → Executed
operate_of answers memory (operation.Read p) r o = completed o (with_read p r o.value)
operate_of answers memory (operation.Modify p) r o = modified o r (changed_by p o.value r.status)
operate_of answers memory (operation.Store p) r o = stored o r (byte_to_store p r)
operate_of answers memory (operation.Branch p) r o = branched o r (branch_taken p r.status)
operate_of answers memory (operation.BitBranch p) r o = bit_branched answers memory o r (bit_branch_taken p o.value)
operate_of answers memory (operation.Push p) r o = pushed_byte o r (byte_to_push p r)
operate_of answers memory (operation.Pull p) r o = pulled_byte answers memory p o r
operate_of answers memory (operation.Register p) r o = completed o (with_register p r)
operate_of answers memory (operation.Flag p) r o = completed o (with_status (with_flag p r.status) r)
operate_of answers memory operation.Brk r o = break_taken memory o r
operate_of answers memory operation.Jmp r o = jumped o r
operate_of answers memory operation.Jsr r o = completed o r
operate_of answers memory operation.Nop r o = completed o r
operate_of answers memory operation.Rti r o = returned_from_interrupt answers memory o r
operate_of answers memory operation.Rts r o = returned answers memory o r
