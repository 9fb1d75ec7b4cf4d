-- Totals of page sums: along any order of the pages the total of right sums is that of all bytes.
use mathlib.Core.Path.{◌≡◌, refl, ap, sym, ◌∙◌}
use mathlib.Core.Logic.{∥∥₁_elim}
use mathlib.Core.List.{List, [], ◌∷◌, map, Perm, Permᴰ}
use Prim.Native.Nat.{ℕ, zero, suc, ◌+◌, ◌*◌, ◌%◌, ◌≤◌, ◌<◌}
use native.Mathlib.Numerals.{add-one}
use native.Mathlib.Nat.{ℕ_set, zero-add}
use native.Mathlib.Omega.{arith}
use lib.ListN.{length, get_or, drop, drop_of_length-le}
use lib.Seq.{drop-cons, ext_get_or}
use borrow.Author.Tests.{eq-eqb}
use Rattle.bits.specs.Lists.{tabulate}
use Rattle.bits.proofs.Tables.{up_to, get_d_tabulate, length_tabulate}
use Rattle.memory.specs.Memory.{memory_length}
use Rattle.page_sums.specs.PageSums.{total_of, page_count, page_length, sum_modulus, page_sum, sum_at, Right}
use Rattle.page_sums.specs.PageSums.{total_along}
use Rattle.page_sums.specs.PageSums.{total_result, total_call}
use Rattle.page_sums.proofs.Pages.{pages_total}

-- the total from entry i on
module _ (l : List ℕ) (i : ℕ) where
  pub total_next : i < length l → total_of (drop i l) ≡ get_or l i 0 + total_of (drop (i + 1) l)
  unfolding total_of
  total_next h = rw (drop-cons l i 0 h, add-one i)

  pub total_end : length l ≤ i → total_of (drop i l) ≡ 0
  unfolding total_of
  total_end h = rw (drop_of_length-le l h)

-- numbers in another order come to the same
total_derived : (f : ℕ → ℕ) (l m : List ℕ) → Permᴰ l m → total_of (map f l) ≡ total_of (map f m)
unfolding total_of
total_derived f [] [] Permᴰ.nil = refl
total_derived f (a ∷ l) (b ∷ m) (Permᴰ.cons e d) = omega (arith, ap f e, total_derived f l m d)
total_derived f (a ∷ b ∷ l) (c ∷ d ∷ m) (Permᴰ.swap e g) = omega (arith, ap f e, ap f g)
total_derived f l m (Permᴰ.trans d e) = total_derived f l _ d ∙ total_derived f _ m e

total_permuted : (f : ℕ → ℕ) (l m : List ℕ) → Perm l m → total_of (map f l) ≡ total_of (map f m)
total_permuted f l m p = ∥∥₁_elim p (ℕ_set _ _) (total_derived f l m)

-- in their own order they are the list itself
own_order : (f : ℕ → ℕ) (n i : ℕ) → map f (tabulate (λ p. p) n i) ≡ tabulate f n i
own_order f zero i = refl
own_order f (suc n) i = ap (λ l. f i ∷ l) (own_order f n (suc i))

in_order : (sums : List ℕ) → tabulate (sum_at sums) (length sums) 0 ≡ sums
in_order sums =
    ext_get_or 0 (tabulate (sum_at sums) (length sums) 0) sums (length_tabulate (sum_at sums) (length sums) 0)
    (λ p h. let i : p < length sums = omega (arith, length_tabulate (sum_at sums) (length sums) 0) in
    get_d_tabulate (sum_at sums) (length sums) 0 p 0 i ∙ ap (sum_at sums) (zero-add p))

-- the total of a list of sums does not depend on the order of the pages
pub along_any : (order sums : List ℕ) → Perm order (up_to (length sums))
    → total_along order sums ≡ total_of sums % sum_modulus
along_any order sums p =
    ap (λ n. n % sum_modulus)
    (total_permuted (sum_at sums) order (up_to (length sums)) p
    ∙ ap total_of (own_order (sum_at sums) (length sums) 0 ∙ in_order sums))

-- totals of numbers that are equal modulo 65,536
total_alike : (f g : ℕ → ℕ) (n i : ℕ) → ((p : ℕ) → p < i + n → f p % sum_modulus ≡ g p % sum_modulus)
    → total_of (tabulate f n i) % sum_modulus ≡ total_of (tabulate g n i) % sum_modulus
unfolding total_of
total_alike f g zero i h = refl
total_alike f g (suc n) i h =
    let here = h i (omega arith) in
    let later = total_alike f g n (suc i) (λ p u. h p (omega arith)) in
    omega (arith, here, later)

-- right sums, of pages that reach beyond the memory
pub right_total : (sums memory : List ℕ) → length memory ≤ page_length * length sums → Right sums memory
    → total_of sums % sum_modulus ≡ total_of memory % sum_modulus
right_total sums memory h right =
    ap (λ l. total_of l % sum_modulus) (sym (in_order sums))
    ∙ total_alike (sum_at sums) (λ p. page_sum p memory) (length sums) 0
    (λ p u. let e = right p (omega arith) in omega (arith, e))
    ∙ ap (λ n. n % sum_modulus) (pages_total (length sums) memory h)

-- 02, U7: "Where all are right, the total taken from them in any order of pages equals the straight sum of all bytes
-- modulo 65,536", for every permutation of 0 to 255
pub any_order : (order sums memory : List ℕ) → Perm order (up_to page_count) → length sums ≡ page_count
    → length memory ≡ memory_length → Right sums memory
    → total_along order sums ≡ total_of memory % sum_modulus
any_order order sums memory p n m right =
    along_any order sums (rw n p) ∙ right_total sums memory (omega arith) right

-- and so does the call
pub total_called : (sums memory : List ℕ) → length sums ≡ page_count → length memory ≡ memory_length → Right sums memory
    → total_call sums ≡ total_result 0 (total_of memory % sum_modulus)
unfolding total_call
total_called sums memory n m right = rw (eq-eqb (length sums) page_count n, right_total sums memory (omega arith) right)
