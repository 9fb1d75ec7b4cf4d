-- The operations of each kind (001, appendix A): what each computes of registers, flags and a byte.
use Rattle.std.specs.Prelude.{Bool, true, false, not, ℕ, ◌%◌}
use Rattle.bits.specs.Bits.{bit}
use Rattle.cpu_opcodes.specs.declared.operation.ReadOperation.{ReadOperation}
use Rattle.cpu_opcodes.specs.declared.operation.ModifyOperation.{ModifyOperation}
use Rattle.cpu_opcodes.specs.declared.operation.StoreOperation.{StoreOperation}
use Rattle.cpu_opcodes.specs.declared.operation.BranchOperation.{BranchOperation}
use Rattle.cpu_opcodes.specs.declared.operation.BitBranchOperation.{BitBranchOperation}
use Rattle.cpu_opcodes.specs.declared.operation.PushOperation.{PushOperation}
use Rattle.cpu_opcodes.specs.declared.operation.PullOperation.{PullOperation}
use Rattle.cpu_opcodes.specs.declared.operation.RegisterOperation.{RegisterOperation}
use Rattle.cpu_opcodes.specs.declared.operation.FlagOperation.{FlagOperation}
use Rattle.cpu_opcodes.specs.declared.operation.ReadOperation.TheVariants.{Adc, And, Bit, Cmp, Cpx, Cpy, Eor, Lda, Ldx}
use Rattle.cpu_opcodes.specs.declared.operation.ReadOperation.TheVariants.{Ldy, Ora, Sbc}
use Rattle.cpu_opcodes.specs.declared.operation.ModifyOperation.TheVariants.{Asl, Dec, Inc, Lsr, Rol, Ror, Rmb, Smb}
use Rattle.cpu_opcodes.specs.declared.operation.StoreOperation.TheVariants.{Sta, Stx, Sty}
use Rattle.cpu_opcodes.specs.declared.operation.BranchOperation.TheVariants.{Bcc, Bcs, Beq, Bmi, Bne, Bpl, Bvc, Bvs}
use Rattle.cpu_opcodes.specs.declared.operation.BitBranchOperation.TheVariants.{Bbr, Bbs}
use Rattle.cpu_opcodes.specs.declared.operation.PushOperation.TheVariants.{Pha, Php}
use Rattle.cpu_opcodes.specs.declared.operation.PullOperation.TheVariants.{Pla, Plp}
use Rattle.cpu_opcodes.specs.declared.operation.RegisterOperation.TheVariants.{Dex, Dey, Inx, Iny, Tax, Tay, Tsx, Txa}
use Rattle.cpu_opcodes.specs.declared.operation.RegisterOperation.TheVariants.{Txs, Tya}
use Rattle.cpu_opcodes.specs.declared.operation.FlagOperation.TheVariants.{Clc, Cld, Cli, Clv, Sec, Sed, Sei}
use Rattle.cpu_alu.specs.Status.{pushed, unpacked, with_v, with_d, with_i, with_c}
use Rattle.cpu_alu.specs.Arithmetic.{adc_of, sbc_of, compare_of}
use Rattle.cpu_alu.specs.Logic.{and_of, ora_of, eor_of, bit_of}
use Rattle.cpu_alu.specs.Shift.{asl_of, lsr_of, rol_of, ror_of, increment_of, decrement_of, reset_bit_of, set_bit_of}
use Rattle.cpu_alu.specs.declared.Status.{Status}
use Rattle.cpu_alu.specs.declared.Computed.{Computed}
use Rattle.cpu_access.specs.declared.CpuRegisters.{CpuRegisters}
use Rattle.cpu_kinds.specs.Updates.{with_sp, with_status, into_a, into_x, into_y, load_a, load_x, load_y}

-- the registers after the byte v was read
unfoldable pub with_read : ReadOperation → CpuRegisters → ℕ → CpuRegisters
with_read Adc r v = into_a (adc_of r.a v r.status) r
with_read And r v = into_a (and_of r.a v r.status) r
with_read Bit r v = with_status (bit_of r.a v r.status) r
with_read Cmp r v = with_status (compare_of r.a v r.status) r
with_read Cpx r v = with_status (compare_of r.x v r.status) r
with_read Cpy r v = with_status (compare_of r.y v r.status) r
with_read Eor r v = into_a (eor_of r.a v r.status) r
with_read Lda r v = load_a v r
with_read Ldx r v = load_x v r
with_read Ldy r v = load_y v r
with_read Ora r v = into_a (ora_of r.a v r.status) r
with_read Sbc r v = into_a (sbc_of r.a v r.status) r

-- a byte that was changed with no effect on the flags: RMB and SMB
abbrev pub flags_kept : ℕ → Status → Computed
flags_kept v s = record { value = v; status = s }

-- the byte that goes back, with the flags, where v was read
unfoldable pub changed_by : ModifyOperation → ℕ → Status → Computed
changed_by Asl v s = asl_of v s
changed_by Dec v s = decrement_of v s
changed_by Inc v s = increment_of v s
changed_by Lsr v s = lsr_of v s
changed_by Rol v s = rol_of v s
changed_by Ror v s = ror_of v s
changed_by (Rmb m) v s = flags_kept (reset_bit_of v m) s
changed_by (Smb m) v s = flags_kept (set_bit_of v m) s

-- the register that is stored
unfoldable pub byte_to_store : StoreOperation → CpuRegisters → ℕ
byte_to_store Sta r = r.a
byte_to_store Stx r = r.x
byte_to_store Sty r = r.y

-- the flag that a branch is taken on
unfoldable pub branch_taken : BranchOperation → Status → Bool
branch_taken Bcc s = not s.c
branch_taken Bcs s = s.c
branch_taken Beq s = s.z
branch_taken Bmi s = s.n
branch_taken Bne s = not s.z
branch_taken Bpl s = not s.n
branch_taken Bvc s = not s.v
branch_taken Bvs s = s.v

-- the bit that a branch is taken on, of the byte v that is tested
unfoldable pub bit_branch_taken : BitBranchOperation → ℕ → Bool
bit_branch_taken (Bbr m) v = not (bit (m % 8) v)
bit_branch_taken (Bbs m) v = bit (m % 8) v

-- 01, Machine state: "a push sets bit 5 in the byte, PHP and BRK bit 4 too"
unfoldable pub byte_to_push : PushOperation → CpuRegisters → ℕ
byte_to_push Pha r = r.a
byte_to_push Php r = pushed r.status true

-- the registers after the byte v was pulled: PLA sets N and Z
unfoldable pub with_pulled : PullOperation → CpuRegisters → ℕ → CpuRegisters
with_pulled Pla r v = load_a v r
with_pulled Plp r v = with_status (unpacked v) r

-- a register counted by one, or moved to another: all but TXS set N and Z
unfoldable pub with_register : RegisterOperation → CpuRegisters → CpuRegisters
with_register Dex r = into_x (decrement_of r.x r.status) r
with_register Dey r = into_y (decrement_of r.y r.status) r
with_register Inx r = into_x (increment_of r.x r.status) r
with_register Iny r = into_y (increment_of r.y r.status) r
with_register Tax r = load_x r.a r
with_register Tay r = load_y r.a r
with_register Tsx r = load_x r.sp r
with_register Txa r = load_a r.x r
with_register Txs r = with_sp r.x r
with_register Tya r = load_a r.y r

-- one flag cleared or set
unfoldable pub with_flag : FlagOperation → Status → Status
with_flag Clc s = with_c false s
with_flag Cld s = with_d false s
with_flag Cli s = with_i false s
with_flag Clv s = with_v false s
with_flag Sec s = with_c true s
with_flag Sed s = with_d true s
with_flag Sei s = with_i true s
