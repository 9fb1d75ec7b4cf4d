-- Tests over lists, and the list of a function's values.
use Rattle.std.specs.Prelude.{Bool, true, false, ◌&&◌, ◌||◌, not, cond, List, [], ◌∷◌, ℕ, zero, suc, ◌+◌, ◌*◌}
use Rattle.bits.specs.Bits.{bit, one_where}

module _ {A : Type 0} where
  -- the test holds of each element
  abbrev pub all_of : (A → Bool) → List A → Bool
  all_of p [] = true
  all_of p (a ∷ l) = p a && all_of p l

  -- the test holds of some element
  abbrev pub any_of : (A → Bool) → List A → Bool
  any_of p [] = false
  any_of p (a ∷ l) = p a || any_of p l

  -- f i, f (i + 1), .., n of them
  abbrev pub tabulate : (ℕ → A) → ℕ → ℕ → List A
  tabulate f zero i = []
  tabulate f (suc n) i = f i ∷ tabulate f n (suc i)

-- the lowest n bits of a number, bit 0 first
abbrev pub bits_of : ℕ → ℕ → List Bool
bits_of n x = tabulate (λ k. bit k x) n 0

-- the number that bits write, bit 0 first
abbrev pub number_of_bits : List Bool → ℕ
number_of_bits [] = 0
number_of_bits (b ∷ l) = one_where b + 2 * number_of_bits l

-- whether an odd number of them is set
abbrev pub odd_ones : List Bool → Bool
odd_ones [] = false
odd_ones (b ∷ l) = cond b (not (odd_ones l)) (odd_ones l)
