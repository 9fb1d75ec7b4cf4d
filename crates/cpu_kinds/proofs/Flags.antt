-- Which operations affect which flag (001, 3.8). Each list there is closed: an operation outside it keeps the flag.
use mathlib.Core.Path.{◌≡◌, refl}
use mathlib.Core.Bool.{Bool, true, false}
use mathlib.Core.List.{List, [], ◌∷◌}
use Prim.Native.Nat.{ℕ}
use lib.Dec.{eqb}
use Rattle.bits.specs.Lists.{any_of}
use Rattle.bits.proofs.Cond.{cond_both}
use Rattle.cpu_opcodes.specs.declared.operation.Operation.{Operation}
use Rattle.cpu_opcodes.specs.declared.operation.Operation.TheVariants.{Read, Modify}
use Rattle.cpu_opcodes.specs.declared.operation.Operation.TheVariants.{Pull, Register, Flag, Brk, Rti}
use Rattle.cpu_opcodes.specs.declared.operation.ReadOperation.{ReadOperation}
use Rattle.cpu_opcodes.specs.declared.operation.ReadOperation.TheVariants.{Adc, And, Bit, Cmp, Cpx, Cpy, Eor, Lda, Ldx}
use Rattle.cpu_opcodes.specs.declared.operation.ReadOperation.TheVariants.{Ldy, Ora, Sbc}
use Rattle.cpu_opcodes.specs.declared.operation.ModifyOperation.{ModifyOperation}
use Rattle.cpu_opcodes.specs.declared.operation.ModifyOperation.TheVariants.{Asl, Dec, Inc, Lsr, Rol, Ror, Rmb, Smb}
use Rattle.cpu_opcodes.specs.declared.operation.PullOperation.{PullOperation}
use Rattle.cpu_opcodes.specs.declared.operation.PullOperation.TheVariants.{Pla, Plp}
use Rattle.cpu_opcodes.specs.declared.operation.RegisterOperation.{RegisterOperation}
use Rattle.cpu_opcodes.specs.declared.operation.RegisterOperation.TheVariants.{Dex, Dey, Inx, Iny, Tax, Tay, Tsx, Txa}
use Rattle.cpu_opcodes.specs.declared.operation.RegisterOperation.TheVariants.{Txs, Tya}
use Rattle.cpu_opcodes.specs.declared.operation.FlagOperation.{FlagOperation}
use Rattle.cpu_opcodes.specs.declared.operation.FlagOperation.TheVariants.{Clc, Cld, Cli, Clv, Sec, Sed, Sei}
use Rattle.cpu_alu.specs.Arithmetic.{add_binary, add_decimal, adc_of, subtract_binary, decimal_difference, sbc_of, compare_of}
use Rattle.cpu_alu.specs.Logic.{and_of, ora_of, eor_of, bit_of}
use Rattle.cpu_alu.specs.Shift.{asl_of, lsr_of, rol_of, ror_of, increment_of, decrement_of}
use Rattle.cpu_alu.specs.declared.Status.{Status}
use Rattle.cpu_alu.specs.declared.Computed.{Computed}
use Rattle.cpu_access.specs.declared.CpuRegisters.{CpuRegisters}
use Rattle.cpu_kinds.specs.Kinds.{with_read, changed_by, with_pulled, with_register, with_flag}
use Rattle.cpu_kinds.proofs.Mnemonics.{operation_number}

-- a list names an operation by its mnemonic, RMB, SMB, BBR and BBS whatever their bit
abbrev pub listed : List Operation → Operation → Bool
listed l o = any_of (λ p. eqb (operation_number p) (operation_number o)) l

-- 001, 3.8.1: SEC, CLC; "Other operations which affect the Carry Bit are ADC, ASL, CMP, CPX, CPY, LSR, PLP, ROL, ROR,
-- RTI, and SBC."
abbrev pub affect_c : List Operation
affect_c =
    Flag Sec ∷ Flag Clc ∷ Read Adc ∷ Modify Asl ∷ Read Cmp ∷ Read Cpx ∷ Read Cpy ∷ Modify Lsr ∷ Pull Plp ∷ Modify Rol
    ∷ Modify Ror ∷ Rti
    ∷ Read Sbc ∷ []

-- 001, 3.8.2, of Z; 001, 3.8.7, of N: the same instructions
abbrev pub affect_nz : List Operation
affect_nz =
    Read Adc ∷ Read And ∷ Modify Asl ∷ Read Bit ∷ Read Cmp ∷ Read Cpx ∷ Read Cpy ∷ Modify Dec ∷ Register Dex
    ∷ Register Dey ∷ Read Eor
    ∷ Modify Inc ∷ Register Inx ∷ Register Iny ∷ Read Lda ∷ Read Ldx ∷ Read Ldy ∷ Modify Lsr ∷ Read Ora ∷ Pull Pla
    ∷ Pull Plp ∷ Modify Rol
    ∷ Modify Ror ∷ Rti ∷ Read Sbc ∷ Register Tax ∷ Register Tay ∷ Register Tsx ∷ Register Txa ∷ Register Tya ∷ []

-- 001, 3.8.3: cleared by CLI, set by SEI and BRK; "RTI and .. PLP instructions will also affect the I bit"
abbrev pub affect_i : List Operation
affect_i = Flag Cli ∷ Flag Sei ∷ Brk ∷ Rti ∷ Pull Plp ∷ []

-- 001, 3.8.4: SED, CLD; "The PLP and RTI instructions also affect the Decimal Mode Bit."
abbrev pub affect_d : List Operation
affect_d = Flag Sed ∷ Flag Cld ∷ Pull Plp ∷ Rti ∷ []

-- 001, 3.8.6: "Instructions affecting the V flag are ADC, BIT, CLV, PLP, RTI and SBC."
abbrev pub affect_v : List Operation
affect_v = Read Adc ∷ Read Bit ∷ Flag Clv ∷ Pull Plp ∷ Rti ∷ Read Sbc ∷ []

abbrev pub Unless : Bool → Type 0 → Type 0
Unless true A = Unit
Unless false A = A

-- the flags t after operation o, where they were s: one whose list does not name o is kept
pub record Kept (o : Operation) (s t : Status) : Type 0 where
  pub n : Unless (listed affect_nz o) (t.n ≡ s.n)
  pub v : Unless (listed affect_v o) (t.v ≡ s.v)
  pub d : Unless (listed affect_d o) (t.d ≡ s.d)
  pub i : Unless (listed affect_i o) (t.i ≡ s.i)
  pub z : Unless (listed affect_nz o) (t.z ≡ s.z)
  pub c : Unless (listed affect_c o) (t.c ≡ s.c)

pub unlisted : {A : Type 0} (b : Bool) → b ≡ false → Unless b A → A
unlisted b e u = rw e at u

pub read_keeps : (p : ReadOperation) (r : CpuRegisters) (v : ℕ) → Kept (Read p) r.status (with_read p r v).status
unfolding with_read adc_of add_decimal add_binary sbc_of and_of ora_of eor_of bit_of compare_of
read_keeps Adc r v =
    cond_both (λ (k : Computed). Kept (Read Adc) r.status k.status) r.status.d
    (add_decimal r.a v r.status) (add_binary r.a v r.status)
    (λ t. record { n = tt; v = tt; d = refl; i = refl; z = tt; c = tt })
    (λ t. record { n = tt; v = tt; d = refl; i = refl; z = tt; c = tt })
read_keeps And r v = record { n = tt; v = refl; d = refl; i = refl; z = tt; c = refl }
read_keeps Bit r v = record { n = tt; v = tt; d = refl; i = refl; z = tt; c = refl }
read_keeps Cmp r v = record { n = tt; v = refl; d = refl; i = refl; z = tt; c = tt }
read_keeps Cpx r v = record { n = tt; v = refl; d = refl; i = refl; z = tt; c = tt }
read_keeps Cpy r v = record { n = tt; v = refl; d = refl; i = refl; z = tt; c = tt }
read_keeps Eor r v = record { n = tt; v = refl; d = refl; i = refl; z = tt; c = refl }
read_keeps Lda r v = record { n = tt; v = refl; d = refl; i = refl; z = tt; c = refl }
read_keeps Ldx r v = record { n = tt; v = refl; d = refl; i = refl; z = tt; c = refl }
read_keeps Ldy r v = record { n = tt; v = refl; d = refl; i = refl; z = tt; c = refl }
read_keeps Ora r v = record { n = tt; v = refl; d = refl; i = refl; z = tt; c = refl }
read_keeps Sbc r v =
    cond_both (λ (k : Computed). Kept (Read Sbc) r.status k.status) r.status.d
    (record { value = decimal_difference r.a v r.status.c; status = (subtract_binary r.a v r.status).status })
    (subtract_binary r.a v r.status)
    (λ t. record { n = tt; v = tt; d = refl; i = refl; z = tt; c = tt })
    (λ t. record { n = tt; v = tt; d = refl; i = refl; z = tt; c = tt })

pub change_keeps : (p : ModifyOperation) (v : ℕ) (s : Status) → Kept (Modify p) s (changed_by p v s).status
unfolding changed_by asl_of lsr_of rol_of ror_of increment_of decrement_of
change_keeps Asl v s = record { n = tt; v = refl; d = refl; i = refl; z = tt; c = tt }
change_keeps Dec v s = record { n = tt; v = refl; d = refl; i = refl; z = tt; c = refl }
change_keeps Inc v s = record { n = tt; v = refl; d = refl; i = refl; z = tt; c = refl }
change_keeps Lsr v s = record { n = tt; v = refl; d = refl; i = refl; z = tt; c = tt }
change_keeps Rol v s = record { n = tt; v = refl; d = refl; i = refl; z = tt; c = tt }
change_keeps Ror v s = record { n = tt; v = refl; d = refl; i = refl; z = tt; c = tt }
change_keeps (Rmb m) v s = record { n = refl; v = refl; d = refl; i = refl; z = refl; c = refl }
change_keeps (Smb m) v s = record { n = refl; v = refl; d = refl; i = refl; z = refl; c = refl }

pub pulled_keeps : (p : PullOperation) (r : CpuRegisters) (v : ℕ) → Kept (Pull p) r.status (with_pulled p r v).status
unfolding with_pulled
pulled_keeps Pla r v = record { n = tt; v = refl; d = refl; i = refl; z = tt; c = refl }
pulled_keeps Plp r v = record { n = tt; v = tt; d = tt; i = tt; z = tt; c = tt }

pub register_keeps : (p : RegisterOperation) (r : CpuRegisters)
    → Kept (Register p) r.status (with_register p r).status
unfolding with_register increment_of decrement_of
register_keeps Dex r = record { n = tt; v = refl; d = refl; i = refl; z = tt; c = refl }
register_keeps Dey r = record { n = tt; v = refl; d = refl; i = refl; z = tt; c = refl }
register_keeps Inx r = record { n = tt; v = refl; d = refl; i = refl; z = tt; c = refl }
register_keeps Iny r = record { n = tt; v = refl; d = refl; i = refl; z = tt; c = refl }
register_keeps Tax r = record { n = tt; v = refl; d = refl; i = refl; z = tt; c = refl }
register_keeps Tay r = record { n = tt; v = refl; d = refl; i = refl; z = tt; c = refl }
register_keeps Tsx r = record { n = tt; v = refl; d = refl; i = refl; z = tt; c = refl }
register_keeps Txa r = record { n = tt; v = refl; d = refl; i = refl; z = tt; c = refl }
register_keeps Txs r = record { n = refl; v = refl; d = refl; i = refl; z = refl; c = refl }
register_keeps Tya r = record { n = tt; v = refl; d = refl; i = refl; z = tt; c = refl }

pub flag_keeps : (p : FlagOperation) (s : Status) → Kept (Flag p) s (with_flag p s)
unfolding with_flag
flag_keeps Clc s = record { n = refl; v = refl; d = refl; i = refl; z = refl; c = tt }
flag_keeps Cld s = record { n = refl; v = refl; d = tt; i = refl; z = refl; c = refl }
flag_keeps Cli s = record { n = refl; v = refl; d = refl; i = tt; z = refl; c = refl }
flag_keeps Clv s = record { n = refl; v = tt; d = refl; i = refl; z = refl; c = refl }
flag_keeps Sec s = record { n = refl; v = refl; d = refl; i = refl; z = refl; c = tt }
flag_keeps Sed s = record { n = refl; v = refl; d = tt; i = refl; z = refl; c = refl }
flag_keeps Sei s = record { n = refl; v = refl; d = refl; i = tt; z = refl; c = refl }

-- flags that are the same are kept by any operation
unless_same : {A : Type 0} (b : Bool) → A → Unless b A
unless_same true a = tt
unless_same false a = a

pub same_kept : (o : Operation) (s t : Status) → t ≡ s → Kept o s t
same_kept o s t e = record {
  n = unless_same (listed affect_nz o) (rw e);
  v = unless_same (listed affect_v o) (rw e);
  d = unless_same (listed affect_d o) (rw e);
  i = unless_same (listed affect_i o) (rw e);
  z = unless_same (listed affect_nz o) (rw e);
  c = unless_same (listed affect_c o) (rw e);
}
