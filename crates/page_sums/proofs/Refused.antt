-- Where 13 refuses a call: behind 1, by the number of sums.
use mathlib.Core.Path.{◌≡◌, refl}
use mathlib.Core.Bool.{Bool, true, false, ◌&&◌, not}
use Prim.Native.Nat.{ℕ}
use borrow.Author.Tests.{eq-eqb, ne_eqb}
use lib.Dec.{eqb}
use Rattle.memory.specs.Memory.{memory_length}
use Rattle.page_sums.specs.PageSums.{page_count, page_list_refused}

module _ (memory sums : ℕ) where
  -- a memory of another length is 1
  pub memory_wrong : (memory ≡ memory_length → ⊥) → page_list_refused memory sums ≡ false
  unfolding page_list_refused
  memory_wrong m = rw (ne_eqb memory memory_length m)

  pub list_wrong : memory ≡ memory_length → (sums ≡ page_count → ⊥) → page_list_refused memory sums ≡ true
  unfolding page_list_refused
  list_wrong m n = rw (eq-eqb memory memory_length m, ne_eqb sums page_count n)

  -- 256 sums are never refused
  pub list_right : sums ≡ page_count → page_list_refused memory sums ≡ false
  unfolding page_list_refused
  list_right n = rw (eq-eqb sums page_count n) (neither (eqb memory memory_length))
    where
      neither : (t : Bool) → t && not true ≡ false
      neither true = refl
      neither false = refl
