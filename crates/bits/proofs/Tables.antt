-- A rule shown at all places of a table by one test that is computed over it.
use mathlib.Core.Path.{◌≡◌, ◌∙◌, refl, ap, sym, subst}
use mathlib.Core.Bool.{Bool}
use mathlib.Core.List.{List}
use Prim.Native.Nat.{ℕ, zero, suc, ◌+◌, ◌<◌}
use native.Mathlib.Nat.{add-zero, zero-add, add-suc, suc-add, le_of_suc-le-suc, not-suc-le-zero}
use lib.Dec.{T}
use lib.ListN.{get_or, length}
use Rattle.bits.specs.Lists.{all_of, tabulate}
use Rattle.bits.proofs.Cond.{both_left, both_right}

module _ {A : Type 0} where
  -- what stands at a place of the list of a function's values
  pub get_d_tabulate : (f : ℕ → A) (n i k : ℕ) (d : A) → k < n → get_or (tabulate f n i) k d ≡ f (i + k)
  get_d_tabulate f zero i k d h = absurd (not-suc-le-zero h)
  get_d_tabulate f (suc n) i zero d h = ap f (sym (add-zero i))
  get_d_tabulate f (suc n) i (suc k) d h =
      get_d_tabulate f n (suc i) k d (le_of_suc-le-suc h) ∙ ap f (suc-add i k ∙ sym (add-suc i k))

  pub length_tabulate : (f : ℕ → A) (n i : ℕ) → length (tabulate f n i) ≡ n
  length_tabulate f zero i = refl
  length_tabulate f (suc n) i = ap suc (length_tabulate f n (suc i))

  -- a test that passes over the list of a function's values passes at each of them
  pub all_of_at : (p : A → Bool) (f : ℕ → A) (n i : ℕ) → T (all_of p (tabulate f n i)) → (k : ℕ) → k < n
      → T (p (f (i + k)))
  all_of_at p f zero i t k h = absurd (not-suc-le-zero h)
  all_of_at p f (suc n) i t zero h =
      subst (λ (m : ℕ). T (p (f m))) (sym (add-zero i)) (both_left (p (f i)) (all_of p (tabulate f n (suc i))) t)
  all_of_at p f (suc n) i t (suc k) h =
      subst (λ (m : ℕ). T (p (f m))) (suc-add i k ∙ sym (add-suc i k))
      (all_of_at p f n (suc i) (both_right (p (f i)) (all_of p (tabulate f n (suc i))) t) k (le_of_suc-le-suc h))

-- the numbers below n
abbrev pub up_to : ℕ → List ℕ
up_to n = tabulate (λ k. k) n 0

-- a test that passes over the numbers below n passes at each of them
pub below : (p : ℕ → Bool) (n : ℕ) → T (all_of p (up_to n)) → (k : ℕ) → k < n → T (p k)
below p n t k h = subst (λ (m : ℕ). T (p m)) (zero-add k) (all_of_at p (λ k. k) n 0 t k h)

-- the same for pairs
pub below2 : (p : ℕ → ℕ → Bool) (m n : ℕ) → T (all_of (λ j. all_of (p j) (up_to n)) (up_to m)) → (j k : ℕ) → j < m → k < n
    → T (p j k)
below2 p m n t j k h l = below (p j) n (below (λ i. all_of (p i) (up_to n)) m t j h) k l
