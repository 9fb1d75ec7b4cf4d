-- A load with page sums: where it is a load, where 13 refuses it, and that a refused one leaves the sums alone. What a
-- sum changes by is that of any memory (`exactly_changed`, `right_after`, `sums_twice` of the crate `page_sums`).
use mathlib.Core.Path.{◌≡◌, refl, ap, sym, ◌∙◌}
use mathlib.Core.List.{List}
use Prim.Native.Nat.{ℕ}
use borrow.Author.Tests.{ne_eqb}
use lib.Dec.{eqb}
use lib.ListN.{length}
use Rattle.bits.proofs.Cond.{cond_both}
use Rattle.memory.specs.Memory.{memory_length}
use Rattle.page_sums.specs.PageSums.{page_count, page_list_refused, sums_after, SixteenBits}
use Rattle.page_sums.proofs.Sums.{sums_kept}
use Rattle.page_sums.proofs.Refused.{memory_wrong, list_wrong, list_right}
use Rattle.tape.specs.Tapes.{check_of, Loaded, load_result, loaded, load_of, load_with_sums_of}
use Rattle.tape.proofs.Laws.{load_other_length}

module _ (tape memory sums : List ℕ) where
  -- 13 before any record, with place 0
  pub list_next : length memory ≡ memory_length → (length sums ≡ page_count → ⊥)
      → load_with_sums_of tape memory sums ≡ loaded (load_result 13 0) memory
  unfolding load_with_sums_of
  list_next m n = rw (list_wrong (length memory) (length sums) m n)

  -- "Unless 13 refuses it", it is a load lacking sums
  pub with_sums_lem : length sums ≡ page_count → load_with_sums_of tape memory sums ≡ load_of tape memory
  unfolding load_with_sums_of
  with_sums_lem n = rw (list_right (length memory) (length sums) n)

  -- 1 comes before 13
  pub memory_first : (length memory ≡ memory_length → ⊥)
      → load_with_sums_of tape memory sums ≡ loaded (load_result 1 0) memory
  unfolding load_with_sums_of
  memory_first h = rw (memory_wrong (length memory) (length sums) h) (load_other_length tape memory h)

  -- a refused load leaves memory unchanged, and so the sums
  abbrev Kept : Loaded → Type 0
  Kept o = (o.result.number ≡ 0 → ⊥) → o.memory ≡ memory

  kept : Kept (load_of tape memory)
  unfolding load_of
  kept =
      cond_both Kept (eqb (length memory) memory_length) _ _ (λ _ refused. rw (ne_eqb (check_of tape).number 0 refused))
      (λ _ _. refl)

  kept_with_sums : Kept (load_with_sums_of tape memory sums)
  unfolding load_with_sums_of
  kept_with_sums = cond_both Kept (page_list_refused (length memory) (length sums)) _ _ (λ _ _. refl) (λ _. kept)

  pub refused_unsummed : SixteenBits sums → ((load_with_sums_of tape memory sums).result.number ≡ 0 → ⊥)
      → sums_after sums memory (load_with_sums_of tape memory sums).memory ≡ sums
  refused_unsummed words refused =
      ap (sums_after sums memory) (kept_with_sums refused) ∙ sym (sums_kept 0 sums memory words)
