-- What the code does, in the words of the specification: the walks along a pin list.
use mathlib.Core.Path.{◌≡◌, refl, ap}
use mathlib.Core.Bool.{Bool, true, false, ◌&&◌, ◌||◌, cond, and-false, or-false}
use mathlib.Core.List.{List, [], ◌∷◌}
use Prim.Native.Nat.{ℕ, suc, ◌≤◌}
use native.Mathlib.Numerals.{one-add}
use lib.Dec.{ltb, leb, eqb}
use lib.ListN.{length}
use borrow.Author.Tests.{leb-true, le-ltb}
use Rattle.std.specs.List.{prefix_len}
use Rattle.bits.proofs.Cond.{and_right}
use Rattle.pin_lists.specs.PinLists.{pin_of, code_right, entry_right, rest_right, pins_right, input_count}
use Rattle.pin_lists.proofs.PinLists.{right_lengths}

module _ (last_pin : ℕ) where
  -- a right code's pin is none above the last
  code_pin : (d : ℕ) → code_right last_pin d ≡ true → pin_of d ≤ last_pin
  unfolding code_right
  code_pin d e = leb-true (pin_of d) last_pin (and_right (ltb d 128) (leb (pin_of d) last_pin) e)

  -- nothing stands behind the last pin within a clock: there the rule of later entries is that of the first
  pub behind_last : (c : ℕ) (ts cs : List ℕ) → rest_right last_pin c last_pin ts cs ≡ pins_right last_pin c ts cs
  unfolding rest_right pins_right entry_right
  behind_last c [] [] = refl
  behind_last c [] (d ∷ ds) = refl
  behind_last c (t ∷ ts) [] = refl
  behind_last c (t ∷ ts) (d ∷ ds) =
      ap (λ (b : Bool). b && rest_right last_pin t (pin_of d) ts ds) (within (code_right last_pin d) _ _ later)
    where
      within : (a x y : Bool) → (a ≡ true → x ≡ y) → (a && x) ≡ (a && y)
      within true x y h = h refl
      within false x y h = refl

      later : code_right last_pin d ≡ true → (ltb c t || (eqb c t && ltb last_pin (pin_of d))) ≡ ltb c t
      later e = rw (le-ltb last_pin (pin_of d) (code_pin d e), and-false (eqb c t), or-false (ltb c t))

  -- lists of unequal length are not right
  pub unequal : (c : ℕ) (ts cs : List ℕ) → (length ts ≡ length cs → ⊥) → false ≡ pins_right last_pin c ts cs
  unequal c ts cs h = neither (pins_right last_pin c ts cs) (λ e. h (right_lengths last_pin c ts cs e))
    where
      neither : (b : Bool) → (b ≡ true → ⊥) → false ≡ b
      neither true n = absurd (n refl)
      neither false n = refl

  -- one entry more, of lists that begin so
  pub rest_next : (c p t d : ℕ) (ts ds : List ℕ) {times codes : List ℕ} → times ≡ t ∷ ts → codes ≡ d ∷ ds
      → rest_right last_pin c p times codes
      ≡ (entry_right last_pin c p t d && rest_right last_pin t (pin_of d) ts ds)
  unfolding rest_right
  rest_next c p t d ts ds a b = rw (a, b)

  -- no entry is left
  pub rest_end : (c p : ℕ) {times codes : List ℕ} → times ≡ [] → codes ≡ [] → rest_right last_pin c p times codes ≡ true
  unfolding rest_right
  rest_end c p a b = rw (a, b)

-- the inputs of a clock are the entries in front that are of it
pub input_count_prefix : (c : ℕ) (ts : List ℕ) → prefix_len (λ t. eqb t c) ts ≡ input_count c ts
unfolding input_count
input_count_prefix c [] = refl
input_count_prefix c (t ∷ ts) = ap (λ n. cond (eqb t c) n 0) (rw one-add (ap suc (input_count_prefix c ts)))
