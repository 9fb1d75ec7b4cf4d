-- The next mark, one character on, and how far it can be.
use mathlib.Core.Path.{◌≡◌}
use mathlib.Core.List.{List, [], ◌∷◌}
use Prim.Native.Nat.{ℕ, suc, ◌+◌, ◌≤◌, ◌<◌}
use native.Mathlib.Nat.{add-zero}
use native.Mathlib.Numerals.{add-one}
use native.Mathlib.Omega.{arith}
use lib.Dec.{eqb}
use lib.ListN.{length, drop, get_or, length-drop, drop_of_length-le}
use lib.Seq.{drop-cons}
use borrow.Author.Tests.{eq-eqb, ne_eqb}
use Rattle.bits.proofs.Cond.{cond_both}
use Rattle.test_text.specs.Marks.{unmarked, next_mark}

module _ (mark : ℕ) (text : List ℕ) (place : ℕ) where
  pub mark_here : place < length text → get_or text place 0 ≡ mark → place ≡ next_mark mark text place
  unfolding unmarked
  mark_here h e = rw (drop-cons text place 0 h, eq-eqb (get_or text place 0) mark e, add-zero place)

  pub mark_later : place < length text → (get_or text place 0 ≡ mark → ⊥)
      → next_mark mark text (place + 1) ≡ next_mark mark text place
  unfolding unmarked
  mark_later h e = rw (drop-cons text place 0 h, ne_eqb (get_or text place 0) mark e, add-one place) (omega arith)

  pub no_mark : length text ≤ place → place ≡ next_mark mark text place
  unfolding unmarked
  no_mark h = rw (drop_of_length-le text h, add-zero place)

unmarked_within : (mark : ℕ) (text : List ℕ) → unmarked mark text ≤ length text
unfolding unmarked
unmarked_within mark [] = omega arith
unmarked_within mark (c ∷ text) =
    let l = unmarked_within mark text in
    cond_both (λ n. n ≤ suc (length text)) (eqb c mark) 0 (1 + unmarked mark text) (λ _. omega arith) (λ _. omega arith)

-- from within the text it stays within
pub mark_within : (mark : ℕ) (text : List ℕ) (from : ℕ) → from ≤ length text → next_mark mark text from ≤ length text
mark_within mark text from h = omega (arith, unmarked_within mark (drop from text), length-drop from text)
