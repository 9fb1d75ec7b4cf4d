-- Document 02, U4, "Stop where a byte is written": the chosen address, and the writes that are at it.
use Rattle.std.specs.Prelude.{ℕ, Bool, false, ◌&&◌, ◌||◌, ◌==◌, None, Option, Some}
use Rattle.memory.specs.Memory.{is_register}
use Rattle.cpu_access.specs.declared.stack.Write.{Write}
use Rattle.cpu_access.specs.declared.stack.Writes.{Writes}
use Rattle.cpu_access.specs.Stack.{each_write}

-- one of the writes is at this address, a register's or memory's, by a push or not, and whatever the byte
unfoldable pub is_written : ℕ → Writes → Bool
is_written address w =
    each_write (λ (there : Bool) (x : Write) (before : Bool). before || (there && x.address == address)) w false

-- "the instruction that writes a chosen address": "the same address, or none"; none is written by nothing
unfoldable pub halts : Option ℕ → Writes → Bool
halts None w = false
halts (Some address) w = is_written address w

-- one of the writes is at a register's address
unfoldable pub writes_register : Writes → Bool
writes_register w =
    each_write (λ (there : Bool) (x : Write) (before : Bool). before || (there && is_register x.address)) w false

-- a clock with these writes is left to the clock's own rules: one is at a register's or at the halt address
unfoldable pub ends_span : Option ℕ → Writes → Bool
ends_span halt w = writes_register w || halts halt w
