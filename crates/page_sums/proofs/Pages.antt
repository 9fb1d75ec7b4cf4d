-- The pages of a memory: which bytes are a page's, and that all bytes are those of all pages.
use mathlib.Core.Path.{◌≡◌, refl, ap}
use mathlib.Core.Bool.{Bool, true, false, cond}
use mathlib.Core.List.{List, [], ◌∷◌}
use Prim.Native.Nat.{ℕ, zero, suc, ◌+◌, ◌*◌, ◌≤◌, ◌<◌}
use native.Mathlib.Omega.{arith}
use borrow.Author.Tests.{eq-eqb, ne_eqb, eqb-true, eqb-false}
use lib.Dec.{eqb}
use lib.ListN.{length, take, drop}
use Rattle.bits.specs.Lists.{tabulate}
use Rattle.page_sums.specs.PageSums.{total_of, page_length, page_of, part_sum, page_sum}

-- ---- the bytes of a page

module _ (p : ℕ) where
  -- behind the page
  behind : (address : ℕ) (bytes : List ℕ) → page_length * p + page_length ≤ address → part_sum p address bytes ≡ 0
  unfolding part_sum
  behind address [] h = refl
  behind address (b ∷ bytes) h =
      let other : page_of address ≡ p → ⊥ = λ e. omega arith in
      rw (ne_eqb (page_of address) p other) (omega (arith, behind (address + 1) bytes (omega arith)))

  -- in the page, with j addresses of it left
  within : (j address : ℕ) (bytes : List ℕ) → address + j ≡ page_length * p + page_length → j ≤ page_length
      → part_sum p address bytes ≡ total_of (take j bytes)
  unfolding part_sum total_of
  within zero address [] e h = refl
  within (suc j) address [] e h = refl
  within zero address (b ∷ bytes) e h = behind address (b ∷ bytes) (omega arith)
  within (suc j) address (b ∷ bytes) e h =
      let own : page_of address ≡ p = omega arith in
      rw (eq-eqb (page_of address) p own) (ap (λ n. b + n) (within j (address + 1) bytes (omega arith) (omega arith)))

  -- before the page, by j addresses
  ahead : (j address : ℕ) (bytes : List ℕ) → address + j ≡ page_length * p
      → part_sum p address bytes ≡ total_of (take page_length (drop j bytes))
  unfolding part_sum total_of
  ahead zero address bytes e = within page_length address bytes (omega arith) (omega arith)
  ahead (suc j) address [] e = refl
  ahead (suc j) address (b ∷ bytes) e =
      let other : page_of address ≡ p → ⊥ = λ s. omega arith in
      rw (ne_eqb (page_of address) p other) (omega (arith, ahead j (address + 1) bytes (omega arith)))

  -- a page's bytes are those at 256 × p to 256 × p + 255
  pub page_bytes : (memory : List ℕ) → page_sum p memory ≡ total_of (take page_length (drop (page_length * p) memory))
  page_bytes memory = ahead (page_length * p) 0 memory (omega arith)

-- ---- the bytes of all pages

-- two lists of numbers, added entry by entry
total_both : (f g : ℕ → ℕ) (n i : ℕ)
    → total_of (tabulate (λ p. f p + g p) n i) ≡ total_of (tabulate f n i) + total_of (tabulate g n i)
unfolding total_of
total_both f g zero i = refl
total_both f g (suc n) i = omega (arith, total_both f g n (suc i))

-- nothing of a page that is not among them
none_of : (q b n i : ℕ) → q < i → total_of (tabulate (λ p. cond (eqb q p) b 0) n i) ≡ 0
unfolding total_of
none_of q b zero i h = refl
none_of q b (suc n) i h =
    let other : q ≡ i → ⊥ = λ e. omega arith in
    rw (ne_eqb q i other) (omega (arith, none_of q b n (suc i) (omega arith)))

-- a byte counts in one page
one_of : (q b n i : ℕ) → i ≤ q → q < i + n → total_of (tabulate (λ p. cond (eqb q p) b 0) n i) ≡ b
unfolding total_of
one_of q b zero i h u = absurd (omega arith)
one_of q b (suc n) i h u = by_page (eqb q i) refl (λ m. one_of q b n (suc i) m (omega arith))
  where
    by_page : (t : Bool) → eqb q i ≡ t → (suc i ≤ q → total_of (tabulate (λ p. cond (eqb q p) b 0) n (suc i)) ≡ b)
        → cond t b 0 + total_of (tabulate (λ p. cond (eqb q p) b 0) n (suc i)) ≡ b
    by_page true e later = let same = eqb-true q i e in omega (arith, none_of q b n (suc i) (omega arith))
    by_page false e later = let other = eqb-false q i e in omega (arith, later (omega arith))

total_zeros : (n i : ℕ) → total_of (tabulate (λ p. 0) n i) ≡ 0
unfolding total_of
total_zeros zero i = refl
total_zeros (suc n) i = omega (arith, total_zeros n (suc i))

-- the bytes from an address on, in n pages that reach beyond them
pages_whole : (n address : ℕ) (bytes : List ℕ) → address + length bytes ≤ page_length * n
    → total_of (tabulate (λ p. part_sum p address bytes) n 0) ≡ total_of bytes
unfolding part_sum total_of
pages_whole n address [] h = total_zeros n 0
pages_whole n address (b ∷ bytes) h =
    omega (
      arith,
      total_both (λ p. cond (eqb (page_of address) p) b 0) (λ p. part_sum p (address + 1) bytes) n 0,
      one_of (page_of address) b n 0 (omega arith) (omega arith),
      pages_whole n (address + 1) bytes (omega arith),
    )

-- the sums of a memory's pages come to the sum of its bytes
pub pages_total : (n : ℕ) (memory : List ℕ) → length memory ≤ page_length * n
    → total_of (tabulate (λ p. page_sum p memory) n 0) ≡ total_of memory
pages_total n memory h = pages_whole n 0 memory (omega arith)
