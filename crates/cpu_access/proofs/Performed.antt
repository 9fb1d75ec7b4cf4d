-- Accesses performed see nothing of memory below 40h.
use Rattle.std.proofs.Common.{◌≡◌, ℕ, Bool, true, false, cond, List, [], ◌∷◌, ◌++◌, refl, ap, ◌∙◌}
use Rattle.memory.specs.Memory.{is_register}
use Rattle.cpu_access.specs.declared.stack.Write.{Write}
use Rattle.cpu_access.specs.Bus.{memory_byte}
use Rattle.cpu_access.specs.Stack.{write_at}
use Rattle.cpu_access.specs.Accesses.{Accesses, ends, reads, writes, RegisterFile, byte_after, peripherals_read}
use Rattle.cpu_access.specs.Accesses.{peripherals_written, value_read, performed}

-- two memories that agree from 40h on
abbrev pub SameAbove : List ℕ → List ℕ → Type 0
SameAbove m m' = (a : ℕ) → is_register a ≡ false → memory_byte m' a ≡ memory_byte m a

module _ {P : Type 0} (file : RegisterFile P) (m m' : List ℕ) (same : SameAbove m m') where
  value_same : (p : P) (before : List Write) (modify : Bool) (a : ℕ)
      → value_read file m' p before modify a ≡ value_read file m p before modify a
  unfolding value_read
  value_same p before modify a = by_place (is_register a) refl
    where
      by_place : (t : Bool) → is_register a ≡ t
          → cond t (file.value p modify a) (byte_after before a (memory_byte m' a))
          ≡ cond t (file.value p modify a) (byte_after before a (memory_byte m a))
      by_place true e = refl
      by_place false e = ap (byte_after before a) (same a e)

  pub performed_same : {A : Type 0} (t : Accesses A) (p : P) (before : List Write)
      → performed file m' p before t ≡ performed file m p before t
  unfolding performed
  performed_same (ends x) p before = refl
  performed_same (reads modify a go) p before =
      performed_same (go (value_read file m' p before modify a)) (peripherals_read file p a) before
      ∙ ap (λ v. performed file m (peripherals_read file p a) before (go v)) (value_same p before modify a)
  performed_same (writes a v t) p before =
      performed_same t (peripherals_written file p a v) (before ++ (write_at a v ∷ []))
