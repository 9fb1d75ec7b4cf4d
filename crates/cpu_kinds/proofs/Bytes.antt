-- The bytes that an instruction writes.
use mathlib.Core.Path.{◌≡◌, refl}
use Prim.Native.Nat.{ℕ}
use Rattle.cpu_opcodes.specs.declared.operation.StoreOperation.{StoreOperation}
use Rattle.cpu_opcodes.specs.declared.operation.StoreOperation.TheVariants as store
use Rattle.cpu_opcodes.specs.declared.operation.PushOperation.{PushOperation}
use Rattle.cpu_opcodes.specs.declared.operation.PushOperation.TheVariants as push
use Rattle.cpu_access.specs.declared.CpuRegisters.{CpuRegisters}
use Rattle.cpu_kinds.specs.Updates.{with_pc}
use Rattle.cpu_kinds.specs.Kinds.{byte_to_store, byte_to_push}

-- the register that is stored, and the byte that is pushed, do not look at PC
pub byte_stored : (o : StoreOperation) (pc : ℕ) (r : CpuRegisters) → byte_to_store o (with_pc pc r) ≡ byte_to_store o r
unfolding byte_to_store
byte_stored store.Sta pc r = refl
byte_stored store.Stx pc r = refl
byte_stored store.Sty pc r = refl

pub byte_pushed : (o : PushOperation) (pc : ℕ) (r : CpuRegisters) → byte_to_push o (with_pc pc r) ≡ byte_to_push o r
unfolding byte_to_push
byte_pushed push.Pha pc r = refl
byte_pushed push.Php pc r = refl
