-- A single write put into memory.
use mathlib.Core.Path.{◌≡◌, refl}
use mathlib.Core.Bool.{true}
use mathlib.Core.List.{List}
use Prim.Native.Nat.{ℕ}
use Rattle.cpu_access.specs.declared.stack.Write.{Write}
use Rattle.cpu_access.specs.Stack.{one_write}
use Rattle.memory_writes.specs.Commit.{put_write, committed}

pub committed_one : (memory : List ℕ) (x : Write) → committed memory (one_write x) ≡ put_write true x memory
unfolding committed put_write
committed_one memory x = refl
