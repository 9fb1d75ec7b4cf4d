-- Each operation has a number, RMB, SMB, BBR and BBS whatever their bit: two are of one mnemonic just where it is the
-- same.
use Prim.Native.Nat.{ℕ, ◌+◌, ◌*◌}
use Rattle.cpu_opcodes.specs.declared.operation.Operation.{Operation}
use Rattle.cpu_opcodes.specs.declared.operation.Operation.TheVariants.{Read, Modify, Store, Branch, BitBranch}
use Rattle.cpu_opcodes.specs.declared.operation.Operation.TheVariants.{Push, Pull, Register, Flag, Brk, Jmp, Jsr}
use Rattle.cpu_opcodes.specs.declared.operation.Operation.TheVariants.{Nop, Rti, Rts}
use Rattle.cpu_opcodes.specs.declared.operation.ReadOperation.{ReadOperation}
use Rattle.cpu_opcodes.specs.declared.operation.ModifyOperation.{ModifyOperation}
use Rattle.cpu_opcodes.specs.declared.operation.StoreOperation.{StoreOperation}
use Rattle.cpu_opcodes.specs.declared.operation.BranchOperation.{BranchOperation}
use Rattle.cpu_opcodes.specs.declared.operation.BitBranchOperation.{BitBranchOperation}
use Rattle.cpu_opcodes.specs.declared.operation.PushOperation.{PushOperation}
use Rattle.cpu_opcodes.specs.declared.operation.PullOperation.{PullOperation}
use Rattle.cpu_opcodes.specs.declared.operation.RegisterOperation.{RegisterOperation}
use Rattle.cpu_opcodes.specs.declared.operation.FlagOperation.{FlagOperation}
use Rattle.cpu_opcodes.specs.declared.operation.ReadOperation.TheVariants.{Adc, And, Bit, Cmp, Cpx, Cpy, Eor}
use Rattle.cpu_opcodes.specs.declared.operation.ReadOperation.TheVariants.{Lda, Ldx, Ldy, Ora, Sbc}
use Rattle.cpu_opcodes.specs.declared.operation.ModifyOperation.TheVariants.{Asl, Dec, Inc, Lsr, Rol, Ror, Rmb}
use Rattle.cpu_opcodes.specs.declared.operation.ModifyOperation.TheVariants.{Smb}
use Rattle.cpu_opcodes.specs.declared.operation.StoreOperation.TheVariants.{Sta, Stx, Sty}
use Rattle.cpu_opcodes.specs.declared.operation.BranchOperation.TheVariants.{Bcc, Bcs, Beq, Bmi, Bne, Bpl, Bvc}
use Rattle.cpu_opcodes.specs.declared.operation.BranchOperation.TheVariants.{Bvs}
use Rattle.cpu_opcodes.specs.declared.operation.BitBranchOperation.TheVariants.{Bbr, Bbs}
use Rattle.cpu_opcodes.specs.declared.operation.PushOperation.TheVariants.{Pha, Php}
use Rattle.cpu_opcodes.specs.declared.operation.PullOperation.TheVariants.{Pla, Plp}
use Rattle.cpu_opcodes.specs.declared.operation.RegisterOperation.TheVariants.{Dex, Dey, Inx, Iny, Tax, Tay, Tsx}
use Rattle.cpu_opcodes.specs.declared.operation.RegisterOperation.TheVariants.{Txa, Txs, Tya}
use Rattle.cpu_opcodes.specs.declared.operation.FlagOperation.TheVariants.{Clc, Cld, Cli, Clv, Sec, Sed, Sei}

-- within its kind, in the order of the mnemonics
abbrev read_number : ReadOperation → ℕ
read_number Adc = 0
read_number And = 1
read_number Bit = 2
read_number Cmp = 3
read_number Cpx = 4
read_number Cpy = 5
read_number Eor = 6
read_number Lda = 7
read_number Ldx = 8
read_number Ldy = 9
read_number Ora = 10
read_number Sbc = 11

abbrev modify_number : ModifyOperation → ℕ
modify_number Asl = 0
modify_number Dec = 1
modify_number Inc = 2
modify_number Lsr = 3
modify_number Rol = 4
modify_number Ror = 5
modify_number (Rmb m) = 6
modify_number (Smb m) = 7

abbrev store_number : StoreOperation → ℕ
store_number Sta = 0
store_number Stx = 1
store_number Sty = 2

abbrev branch_number : BranchOperation → ℕ
branch_number Bcc = 0
branch_number Bcs = 1
branch_number Beq = 2
branch_number Bmi = 3
branch_number Bne = 4
branch_number Bpl = 5
branch_number Bvc = 6
branch_number Bvs = 7

abbrev bit_branch_number : BitBranchOperation → ℕ
bit_branch_number (Bbr m) = 0
bit_branch_number (Bbs m) = 1

abbrev push_number : PushOperation → ℕ
push_number Pha = 0
push_number Php = 1

abbrev pull_number : PullOperation → ℕ
pull_number Pla = 0
pull_number Plp = 1

abbrev register_number : RegisterOperation → ℕ
register_number Dex = 0
register_number Dey = 1
register_number Inx = 2
register_number Iny = 3
register_number Tax = 4
register_number Tay = 5
register_number Tsx = 6
register_number Txa = 7
register_number Txs = 8
register_number Tya = 9

abbrev flag_number : FlagOperation → ℕ
flag_number Clc = 0
flag_number Cld = 1
flag_number Cli = 2
flag_number Clv = 3
flag_number Sec = 4
flag_number Sed = 5
flag_number Sei = 6

-- its kind, and its number there
abbrev pub operation_number : Operation → ℕ
operation_number (Read o) = 0 * 16 + read_number o
operation_number (Modify o) = 1 * 16 + modify_number o
operation_number (Store o) = 2 * 16 + store_number o
operation_number (Branch o) = 3 * 16 + branch_number o
operation_number (BitBranch o) = 4 * 16 + bit_branch_number o
operation_number (Push o) = 5 * 16 + push_number o
operation_number (Pull o) = 6 * 16 + pull_number o
operation_number (Register o) = 7 * 16 + register_number o
operation_number (Flag o) = 8 * 16 + flag_number o
operation_number Brk = 9 * 16
operation_number Jmp = 10 * 16
operation_number Jsr = 11 * 16
operation_number Nop = 12 * 16
operation_number Rti = 13 * 16
operation_number Rts = 14 * 16
