-- Document 02, U7: calls on a chip with its memory and page sums, of a chip whose memory is of 65,536 bytes.
use Rattle.std.specs.Prelude.{true, false, cond, List, [], ◌∷◌, ℕ, length}
use Rattle.page_sums.specs.PageSums.{page_list_refused, sums_after}
use Rattle.leaps.specs.World.{WorldOf, running_in}
use Rattle.leaps.specs.CallLists.{Call, Listed, listed}
use Rattle.leaps.specs.Calls.{ResultOf, HandedOf, refused_handed, lent_of, after_call_of}

module _ {S : Type 0} where
  -- "13: a page list not of 256 sums, like 1 and directly after it", so it hands back what 1 does; "Unless 13 refuses
  -- it, a run with sums moves the machine just as a run lacking them." What becomes of the sums is said of every change
  -- of a memory (`sums_after`).
  unfoldable pub with_sums : List ℕ → (WorldOf S → HandedOf S) → WorldOf S → HandedOf S
  with_sums sums call w = cond (page_list_refused (length w.memory) (length sums)) (refused_handed 13 w) (call w)

-- where a list of calls with sums leads to, the result of each, and the sums
pub record ListedSums (S : Type 0) : Type 0 where
  pub list : Listed (WorldOf S) (ResultOf S)
  pub sums : List ℕ

abbrev pub listed_sums : {S : Type 0} → Listed (WorldOf S) (ResultOf S) → List ℕ → ListedSums S
listed_sums l sums = record { list = l; sums = sums }

module _ {S : Type 0} (call : Call → WorldOf S → HandedOf S) where
  -- demand 3's list, each call with the sums that the last one left; `call` is what a call lacking sums hands back
  unfoldable pub calls_with_sums : List Call → List ℕ → WorldOf S → ListedSums S
  calls_with_sums [] sums w = listed_sums (record { world = w; results = [] }) sums
  calls_with_sums (c ∷ cs) sums w =
      elim (running_in w) [
        | true ↦ let h = with_sums sums (call c) (lent_of w) in
            let later = calls_with_sums cs (sums_after sums w.memory h.memory) (after_call_of w h) in
            listed_sums (listed h.result later.list) later.sums
        | false ↦ listed_sums (record { world = w; results = [] }) sums
      ]
