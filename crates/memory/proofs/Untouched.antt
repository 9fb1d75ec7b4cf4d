-- A memory with other bytes at 0 to 3Fh: its bytes from 40h on are the same, and may be set before or after.
use mathlib.Core.Path.{◌≡◌, refl, ap}
use mathlib.Core.Bool.{false}
use mathlib.Core.List.{List, [], ◌∷◌, ◌++◌}
use Prim.Native.Nat.{ℕ, zero, suc, ◌≤◌}
use native.Mathlib.Omega.{arith}
use lib.ListN.{length, get_or, take, drop, set, length-append, length-drop, take-append-drop, drop_of_length-le}
use borrow.Author.Tests.{ltb-false}
use Rattle.memory.specs.Memory.{register_end, is_register, with_untouched}

none : (k : ℕ) → drop {A = ℕ} k [] ≡ []
none k = drop_of_length-le [] {i = k} (omega arith)

-- of any number of first entries
byte_behind : (k : ℕ) (first m : List ℕ) (a : ℕ) → length first ≡ k → k ≤ a → get_or (first ++ drop k m) a 0 ≡ get_or m a 0
byte_behind zero [] m a e h = refl
byte_behind zero (x ∷ first) m a e h = absurd (omega arith)
byte_behind (suc k) [] m a e h = absurd (omega arith)
byte_behind (suc k) (x ∷ first) m zero e h = absurd (omega arith)
byte_behind (suc k) (x ∷ first) [] (suc a) e h = rw (none k) at (byte_behind k first [] a (omega arith) (omega arith))
byte_behind (suc k) (x ∷ first) (y ∷ m) (suc a) e h = byte_behind k first m a (omega arith) (omega arith)

set_behind : (k : ℕ) (first m : List ℕ) (a v : ℕ) → length first ≡ k → k ≤ a
    → set (first ++ drop k m) a v ≡ first ++ drop k (set m a v)
set_behind zero [] m a v e h = refl
set_behind zero (x ∷ first) m a v e h = absurd (omega arith)
set_behind (suc k) [] m a v e h = absurd (omega arith)
set_behind (suc k) (x ∷ first) m zero v e h = absurd (omega arith)
set_behind (suc k) (x ∷ first) [] (suc a) v e h =
    ap (λ l. x ∷ l) (rw (none k) at (set_behind k first [] a v (omega arith) (omega arith)))
set_behind (suc k) (x ∷ first) (y ∷ m) (suc a) v e h =
    ap (λ l. x ∷ l) (set_behind k first m a v (omega arith) (omega arith))

-- from 40h on
pub untouched_byte : (first m : List ℕ) (a : ℕ) → length first ≡ register_end → is_register a ≡ false
    → get_or (with_untouched first m) a 0 ≡ get_or m a 0
unfolding with_untouched
untouched_byte first m a e h = byte_behind register_end first m a e (ltb-false a register_end h)

pub untouched_set : (first m : List ℕ) (a v : ℕ) → length first ≡ register_end → is_register a ≡ false
    → set (with_untouched first m) a v ≡ with_untouched first (set m a v)
unfolding with_untouched
untouched_set first m a v e h = set_behind register_end first m a v e (ltb-false a register_end h)

pub untouched_length : (first m : List ℕ) → length first ≡ register_end → register_end ≤ length m
    → length (with_untouched first m) ≡ length m
unfolding with_untouched
untouched_length first m e h =
    let a = length-append first (drop register_end m) in let d = length-drop register_end m in omega arith

-- its own bytes there
pub untouched_own : (m : List ℕ) → with_untouched (take register_end m) m ≡ m
unfolding with_untouched
untouched_own m = take-append-drop register_end m
