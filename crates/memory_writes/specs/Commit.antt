-- The writes of a clock, put into memory.
use Rattle.std.specs.Prelude.{Bool, ◌&&◌, not, cond, List, ℕ, set}
use Rattle.memory.specs.Memory.{is_register}
use Rattle.cpu_access.specs.declared.stack.Write.{Write}
use Rattle.cpu_access.specs.declared.stack.Writes.{Writes}
use Rattle.cpu_access.specs.Stack.{each_write}

-- 01, Machine state: memory's "bytes at 0 to 3Fh, the registers, are never touched"
unfoldable pub put_write : Bool → Write → List ℕ → List ℕ
put_write there w memory = cond (there && not (is_register w.address)) (set memory w.address w.value) memory

-- the writes of a clock that are writes to memory, in their order
unfoldable pub committed : List ℕ → Writes → List ℕ
committed memory w = each_write put_write w memory
