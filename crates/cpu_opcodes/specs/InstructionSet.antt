-- The instruction set of source document 001, A.3, by mnemonic: the opcode, the operation under its kind, the
-- addressing mode and the length of each instruction. The 6502's table stands in the 17 cells that the matrix there
-- misprints: BBS as BBR in the lower half (8Fh to FFh), D4h to D6h and F4h to F6h shifted, and 31h, 71h and 91h as
-- (IND, Y) where they are (IND), Y.
use Rattle.std.specs.Prelude.{List, [], ◌∷◌, ◌++◌, ℕ, ◌+◌, ◌*◌}
use Rattle.cpu_opcodes.specs.declared.Entry.{Entry}
use Rattle.cpu_opcodes.specs.declared.operation.Operation.{Operation}
use Rattle.cpu_opcodes.specs.declared.operation.Operation.TheVariants.{Read, Modify, Store, Branch, BitBranch}
use Rattle.cpu_opcodes.specs.declared.operation.Operation.TheVariants.{Push, Pull, Register, Flag, Brk, Jmp, Jsr}
use Rattle.cpu_opcodes.specs.declared.operation.Operation.TheVariants.{Nop, Rti, Rts}
use Rattle.cpu_opcodes.specs.declared.operation.ReadOperation.TheVariants.{Adc, And, Bit, Cmp, Cpx, Cpy, Eor}
use Rattle.cpu_opcodes.specs.declared.operation.ReadOperation.TheVariants.{Lda, Ldx, Ldy, Ora, Sbc}
use Rattle.cpu_opcodes.specs.declared.operation.ModifyOperation.TheVariants.{Asl, Dec, Inc, Lsr, Rol, Ror, Rmb}
use Rattle.cpu_opcodes.specs.declared.operation.ModifyOperation.TheVariants.{Smb}
use Rattle.cpu_opcodes.specs.declared.operation.StoreOperation.TheVariants.{Sta, Stx, Sty}
use Rattle.cpu_opcodes.specs.declared.operation.BranchOperation.TheVariants.{Bcc, Bcs, Beq, Bmi, Bne, Bpl, Bvc}
use Rattle.cpu_opcodes.specs.declared.operation.BranchOperation.TheVariants.{Bvs}
use Rattle.cpu_opcodes.specs.declared.operation.BitBranchOperation.TheVariants.{Bbr, Bbs}
use Rattle.cpu_opcodes.specs.declared.operation.PushOperation.TheVariants.{Pha, Php}
use Rattle.cpu_opcodes.specs.declared.operation.PullOperation.TheVariants.{Pla, Plp}
use Rattle.cpu_opcodes.specs.declared.operation.RegisterOperation.TheVariants.{Dex, Dey, Inx, Iny, Tax, Tay, Tsx}
use Rattle.cpu_opcodes.specs.declared.operation.RegisterOperation.TheVariants.{Txa, Txs, Tya}
use Rattle.cpu_opcodes.specs.declared.operation.FlagOperation.TheVariants.{Clc, Cld, Cli, Clv, Sec, Sed, Sei}
use Rattle.cpu_opcodes.specs.declared.Mode.{Mode}
use Rattle.cpu_opcodes.specs.declared.Mode.TheVariants.{Implied, Accumulator, Immediate, ZeroPage, ZeroPageX}
use Rattle.cpu_opcodes.specs.declared.Mode.TheVariants.{ZeroPageY, Absolute, AbsoluteX, AbsoluteY}
use Rattle.cpu_opcodes.specs.declared.Mode.TheVariants.{IndexedIndirect, IndirectIndexed, Indirect, Relative}
use Rattle.cpu_opcodes.specs.declared.Mode.TheVariants.{ZeroPageRelative}

-- one line of the set; the length is in clocks, without those that a page crossing or a taken branch adds
pub record Row : Type 0 where
  pub opcode : ℕ
  pub entry : Entry

abbrev pub row : ℕ → Operation → Mode → ℕ → Row
row o p m n = record { opcode = o; entry = record { operation = p; mode = m; length = n } }

-- 01, Instructions: "151 opcodes of the 6502"
abbrev pub standard_rows : List Row
standard_rows =
    row 0x69 (Read Adc) Immediate 2
    ∷ row 0x65 (Read Adc) ZeroPage 3
    ∷ row 0x75 (Read Adc) ZeroPageX 4
    ∷ row 0x6D (Read Adc) Absolute 4
    ∷ row 0x7D (Read Adc) AbsoluteX 4
    ∷ row 0x79 (Read Adc) AbsoluteY 4
    ∷ row 0x61 (Read Adc) IndexedIndirect 6
    ∷ row 0x71 (Read Adc) IndirectIndexed 5
    ∷ row 0x29 (Read And) Immediate 2
    ∷ row 0x25 (Read And) ZeroPage 3
    ∷ row 0x35 (Read And) ZeroPageX 4
    ∷ row 0x2D (Read And) Absolute 4
    ∷ row 0x3D (Read And) AbsoluteX 4
    ∷ row 0x39 (Read And) AbsoluteY 4
    ∷ row 0x21 (Read And) IndexedIndirect 6
    ∷ row 0x31 (Read And) IndirectIndexed 5
    ∷ row 0x0A (Modify Asl) Accumulator 2
    ∷ row 0x06 (Modify Asl) ZeroPage 5
    ∷ row 0x16 (Modify Asl) ZeroPageX 6
    ∷ row 0x0E (Modify Asl) Absolute 6
    ∷ row 0x1E (Modify Asl) AbsoluteX 7
    ∷ row 0x90 (Branch Bcc) Relative 2
    ∷ row 0xB0 (Branch Bcs) Relative 2
    ∷ row 0xF0 (Branch Beq) Relative 2
    ∷ row 0x24 (Read Bit) ZeroPage 3
    ∷ row 0x2C (Read Bit) Absolute 4
    ∷ row 0x30 (Branch Bmi) Relative 2
    ∷ row 0xD0 (Branch Bne) Relative 2
    ∷ row 0x10 (Branch Bpl) Relative 2
    ∷ row 0x00 Brk Implied 7
    ∷ row 0x50 (Branch Bvc) Relative 2
    ∷ row 0x70 (Branch Bvs) Relative 2
    ∷ row 0x18 (Flag Clc) Implied 2
    ∷ row 0xD8 (Flag Cld) Implied 2
    ∷ row 0x58 (Flag Cli) Implied 2
    ∷ row 0xB8 (Flag Clv) Implied 2
    ∷ row 0xC9 (Read Cmp) Immediate 2
    ∷ row 0xC5 (Read Cmp) ZeroPage 3
    ∷ row 0xD5 (Read Cmp) ZeroPageX 4
    ∷ row 0xCD (Read Cmp) Absolute 4
    ∷ row 0xDD (Read Cmp) AbsoluteX 4
    ∷ row 0xD9 (Read Cmp) AbsoluteY 4
    ∷ row 0xC1 (Read Cmp) IndexedIndirect 6
    ∷ row 0xD1 (Read Cmp) IndirectIndexed 5
    ∷ row 0xE0 (Read Cpx) Immediate 2
    ∷ row 0xE4 (Read Cpx) ZeroPage 3
    ∷ row 0xEC (Read Cpx) Absolute 4
    ∷ row 0xC0 (Read Cpy) Immediate 2
    ∷ row 0xC4 (Read Cpy) ZeroPage 3
    ∷ row 0xCC (Read Cpy) Absolute 4
    ∷ row 0xC6 (Modify Dec) ZeroPage 5
    ∷ row 0xD6 (Modify Dec) ZeroPageX 6
    ∷ row 0xCE (Modify Dec) Absolute 6
    ∷ row 0xDE (Modify Dec) AbsoluteX 7
    ∷ row 0xCA (Register Dex) Implied 2
    ∷ row 0x88 (Register Dey) Implied 2
    ∷ row 0x49 (Read Eor) Immediate 2
    ∷ row 0x45 (Read Eor) ZeroPage 3
    ∷ row 0x55 (Read Eor) ZeroPageX 4
    ∷ row 0x4D (Read Eor) Absolute 4
    ∷ row 0x5D (Read Eor) AbsoluteX 4
    ∷ row 0x59 (Read Eor) AbsoluteY 4
    ∷ row 0x41 (Read Eor) IndexedIndirect 6
    ∷ row 0x51 (Read Eor) IndirectIndexed 5
    ∷ row 0xE6 (Modify Inc) ZeroPage 5
    ∷ row 0xF6 (Modify Inc) ZeroPageX 6
    ∷ row 0xEE (Modify Inc) Absolute 6
    ∷ row 0xFE (Modify Inc) AbsoluteX 7
    ∷ row 0xE8 (Register Inx) Implied 2
    ∷ row 0xC8 (Register Iny) Implied 2
    ∷ row 0x4C Jmp Absolute 3
    ∷ row 0x6C Jmp Indirect 5
    ∷ row 0x20 Jsr Absolute 6
    ∷ row 0xA9 (Read Lda) Immediate 2
    ∷ row 0xA5 (Read Lda) ZeroPage 3
    ∷ row 0xB5 (Read Lda) ZeroPageX 4
    ∷ row 0xAD (Read Lda) Absolute 4
    ∷ row 0xBD (Read Lda) AbsoluteX 4
    ∷ row 0xB9 (Read Lda) AbsoluteY 4
    ∷ row 0xA1 (Read Lda) IndexedIndirect 6
    ∷ row 0xB1 (Read Lda) IndirectIndexed 5
    ∷ row 0xA2 (Read Ldx) Immediate 2
    ∷ row 0xA6 (Read Ldx) ZeroPage 3
    ∷ row 0xB6 (Read Ldx) ZeroPageY 4
    ∷ row 0xAE (Read Ldx) Absolute 4
    ∷ row 0xBE (Read Ldx) AbsoluteY 4
    ∷ row 0xA0 (Read Ldy) Immediate 2
    ∷ row 0xA4 (Read Ldy) ZeroPage 3
    ∷ row 0xB4 (Read Ldy) ZeroPageX 4
    ∷ row 0xAC (Read Ldy) Absolute 4
    ∷ row 0xBC (Read Ldy) AbsoluteX 4
    ∷ row 0x4A (Modify Lsr) Accumulator 2
    ∷ row 0x46 (Modify Lsr) ZeroPage 5
    ∷ row 0x56 (Modify Lsr) ZeroPageX 6
    ∷ row 0x4E (Modify Lsr) Absolute 6
    ∷ row 0x5E (Modify Lsr) AbsoluteX 7
    ∷ row 0xEA Nop Implied 2
    ∷ row 0x09 (Read Ora) Immediate 2
    ∷ row 0x05 (Read Ora) ZeroPage 3
    ∷ row 0x15 (Read Ora) ZeroPageX 4
    ∷ row 0x0D (Read Ora) Absolute 4
    ∷ row 0x1D (Read Ora) AbsoluteX 4
    ∷ row 0x19 (Read Ora) AbsoluteY 4
    ∷ row 0x01 (Read Ora) IndexedIndirect 6
    ∷ row 0x11 (Read Ora) IndirectIndexed 5
    ∷ row 0x48 (Push Pha) Implied 3
    ∷ row 0x08 (Push Php) Implied 3
    ∷ row 0x68 (Pull Pla) Implied 4
    ∷ row 0x28 (Pull Plp) Implied 4
    ∷ row 0x2A (Modify Rol) Accumulator 2
    ∷ row 0x26 (Modify Rol) ZeroPage 5
    ∷ row 0x36 (Modify Rol) ZeroPageX 6
    ∷ row 0x2E (Modify Rol) Absolute 6
    ∷ row 0x3E (Modify Rol) AbsoluteX 7
    ∷ row 0x6A (Modify Ror) Accumulator 2
    ∷ row 0x66 (Modify Ror) ZeroPage 5
    ∷ row 0x76 (Modify Ror) ZeroPageX 6
    ∷ row 0x6E (Modify Ror) Absolute 6
    ∷ row 0x7E (Modify Ror) AbsoluteX 7
    ∷ row 0x40 Rti Implied 6
    ∷ row 0x60 Rts Implied 6
    ∷ row 0xE9 (Read Sbc) Immediate 2
    ∷ row 0xE5 (Read Sbc) ZeroPage 3
    ∷ row 0xF5 (Read Sbc) ZeroPageX 4
    ∷ row 0xED (Read Sbc) Absolute 4
    ∷ row 0xFD (Read Sbc) AbsoluteX 4
    ∷ row 0xF9 (Read Sbc) AbsoluteY 4
    ∷ row 0xE1 (Read Sbc) IndexedIndirect 6
    ∷ row 0xF1 (Read Sbc) IndirectIndexed 5
    ∷ row 0x38 (Flag Sec) Implied 2
    ∷ row 0xF8 (Flag Sed) Implied 2
    ∷ row 0x78 (Flag Sei) Implied 2
    ∷ row 0x85 (Store Sta) ZeroPage 3
    ∷ row 0x95 (Store Sta) ZeroPageX 4
    ∷ row 0x8D (Store Sta) Absolute 4
    ∷ row 0x9D (Store Sta) AbsoluteX 5
    ∷ row 0x99 (Store Sta) AbsoluteY 5
    ∷ row 0x81 (Store Sta) IndexedIndirect 6
    ∷ row 0x91 (Store Sta) IndirectIndexed 6
    ∷ row 0x86 (Store Stx) ZeroPage 3
    ∷ row 0x96 (Store Stx) ZeroPageY 4
    ∷ row 0x8E (Store Stx) Absolute 4
    ∷ row 0x84 (Store Sty) ZeroPage 3
    ∷ row 0x94 (Store Sty) ZeroPageX 4
    ∷ row 0x8C (Store Sty) Absolute 4
    ∷ row 0xAA (Register Tax) Implied 2
    ∷ row 0xA8 (Register Tay) Implied 2
    ∷ row 0xBA (Register Tsx) Implied 2
    ∷ row 0x8A (Register Txa) Implied 2
    ∷ row 0x9A (Register Txs) Implied 2
    ∷ row 0x98 (Register Tya) Implied 2
    ∷ []

-- 01, Instructions: "for bit m: RMB 07h, SMB 87h, BBR 0Fh, BBS 8Fh, each + 10h × m"
abbrev pub bit_rows : ℕ → List Row
bit_rows m =
    row (0x07 + 0x10 * m) (Modify (Rmb m)) ZeroPage 5
    ∷ row (0x87 + 0x10 * m) (Modify (Smb m)) ZeroPage 5
    ∷ row (0x0F + 0x10 * m) (BitBranch (Bbr m)) ZeroPageRelative 5
    ∷ row (0x8F + 0x10 * m) (BitBranch (Bbs m)) ZeroPageRelative 5
    ∷ []

abbrev pub rows : List Row
rows =
    standard_rows
    ++
    (bit_rows 0 ++ (bit_rows 1 ++ (bit_rows 2 ++ (bit_rows 3 ++ (bit_rows 4 ++ (bit_rows 5 ++ (bit_rows 6 ++ bit_rows 7)))))))
