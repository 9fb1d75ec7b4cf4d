-- A byte of memory read after writes (`byte_after`) is that of the memory in which they are put (`committed`).
use mathlib.Core.Path.{◌≡◌, refl, sym, ap, ◌∙◌}
use mathlib.Core.Bool.{Bool, true, false, not, cond, false≢true}
use mathlib.Core.List.{List, [], ◌∷◌}
use Prim.Native.Nat.{ℕ, ◌≤◌, ◌<◌}
use native.Mathlib.Omega.{arith}
use lib.Dec.{eqb}
use lib.ListN.{length, get_or, set, length-set}
use lib.Seq.{get_or-set_same, get_or-set_other}
use borrow.Author.Tests.{eqb-true, eqb-false}
use Rattle.memory.specs.Memory.{is_register}
use Rattle.cpu_access.specs.declared.stack.Write.{Write}
use Rattle.cpu_access.specs.Bus.{memory_byte}
use Rattle.cpu_access.specs.Accesses.{byte_after, in_order}
use Rattle.memory_writes.specs.Commit.{put_write, committed}

-- the writes put in their order
put_all : List ℕ → List Write → List ℕ
put_all m [] = m
put_all m (w ∷ ws) = put_all (put_write true w m) ws

all_committed : (m : List ℕ) (ws : List Write) → (in_order ws).count ≤ 3 → committed m (in_order ws) ≡ put_all m ws
unfolding committed put_write in_order put_all
all_committed m [] h = refl
all_committed m (a ∷ []) h = refl
all_committed m (a ∷ b ∷ []) h = refl
all_committed m (a ∷ b ∷ c ∷ []) h = refl
all_committed m (a ∷ b ∷ c ∷ d ∷ more) h = absurd (omega (arith, h))

put_length : (w : Write) (m : List ℕ) → length (put_write true w m) ≡ length m
unfolding put_write
put_length w m = by_place (is_register w.address)
  where
    by_place : (t : Bool) → length (cond (not t) (set m w.address w.value) m) ≡ length m
    by_place true = refl
    by_place false = length-set m w.address w.value

put_byte : (w : Write) (m : List ℕ) (a : ℕ) → is_register a ≡ false → w.address < length m
    → memory_byte (put_write true w m) a ≡ cond (eqb w.address a) w.value (memory_byte m a)
unfolding put_write memory_byte
put_byte w m a e h = by_tests (is_register w.address) (eqb w.address a) refl refl
  where
    by_tests : (t u : Bool) → is_register w.address ≡ t → eqb w.address a ≡ u
        → get_or (cond (not t) (set m w.address w.value) m) a 0 ≡ cond u w.value (get_or m a 0)
    by_tests true true p q = absurd (false≢true (sym e ∙ ap is_register (sym (eqb-true w.address a q)) ∙ p))
    by_tests true false p q = refl
    by_tests false true p q = rw (sym (eqb-true w.address a q)) (get_or-set_same m w.address w.value 0 h)
    by_tests false false p q = get_or-set_other m w.address a w.value 0 (λ s. eqb-false w.address a q (sym s))

-- writes at addresses that a memory of n bytes has
abbrev pub Inside : ℕ → List Write → Type 0
Inside n [] = Unit {0}
Inside n (w ∷ ws) = (w.address < n) × Inside n ws

put_bytes : (ws : List Write) (m : List ℕ) (a : ℕ) → is_register a ≡ false → Inside (length m) ws
    → memory_byte (put_all m ws) a ≡ byte_after ws a (memory_byte m a)
unfolding put_all byte_after
put_bytes [] m a e inside = refl
put_bytes (w ∷ ws) m a e inside =
    put_bytes ws (put_write true w m) a e (rw (put_length w m) inside.1)
    ∙ ap (byte_after ws a) (put_byte w m a e inside.0)

pub byte_committed : (ws : List Write) (m : List ℕ) (a : ℕ) → is_register a ≡ false → Inside (length m) ws
    → (in_order ws).count ≤ 3
    → memory_byte (committed m (in_order ws)) a ≡ byte_after ws a (memory_byte m a)
byte_committed ws m a e inside few =
    ap (λ (n : List ℕ). memory_byte n a) (all_committed m ws few) ∙ put_bytes ws m a e inside
