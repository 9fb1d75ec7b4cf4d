-- Document 02, U7: calls with page sums, and lists of them.
use mathlib.Core.Path.{◌≡◌, refl, sym, ap, ◌∙◌}
use mathlib.Core.Bool.{Bool, true, false}
use mathlib.Core.List.{List, [], ◌∷◌, map}
use Prim.Native.Nat.{ℕ, ◌+◌, ◌%◌, ◌<◌}
use native.Mathlib.Omega.{arith}
use lib.ListN.{length}
use borrow.Author.Tests.{ne_eqb}
use Rattle.memory.specs.Memory.{memory_length}
use Rattle.page_sums.specs.PageSums.{page_count, sum_modulus, sum_at, page_sum, sums_after, SixteenBits, Right}
use Rattle.page_sums.specs.PageSums.{page_list_refused}
use Rattle.page_sums.proofs.Sums.{sums_kept, sums_twice, sums_length, sixteen_after, exactly_changed, right_after}
use Rattle.page_sums.proofs.Refused.{memory_wrong, list_wrong, list_right}
use Rattle.refusals.specs.Refusals.{refusal_of}
use Rattle.leaps.specs.Leaps.{plains}
use Rattle.leaps.specs.Chip.{ChipRules}
use Rattle.leaps.specs.World.{WorldOf, running_in, system_of}
use Rattle.leaps.specs.CallLists.{Call, single_clock, run_for, step_of, run_of, call_of, Listed, listed}
use Rattle.leaps.specs.CallLists.{calls}
use Rattle.leaps.specs.CallLists.{clocks_accepted, results_by}
use Rattle.leaps.specs.Calls.{ResultOf, HandedOf, refused_with, refused_handed, stop_of, lent_of}
use Rattle.leaps.specs.Calls.{after_call_of, machine_of, Room}
use Rattle.leaps.specs.Summed.{with_sums, listed_sums, calls_with_sums}
use Rattle.leaps.proofs.Chips.{ChipLaws}
use Rattle.leaps.proofs.Calls.{fair, refused_hands_on}

-- 13 is a refusal, no stop; so is 1
thirteen_no_stop : stop_of 13 ≡ 0
unfolding stop_of
thirteen_no_stop = refl

pub one_no_stop : stop_of 1 ≡ 0
unfolding stop_of
one_no_stop = refl

-- ---- one call

module _ {S : Type 0} (sums : List ℕ) (call : WorldOf S → HandedOf S) (w : WorldOf S) where
  pub list_refused : page_list_refused (length w.memory) (length sums) ≡ true
      → with_sums sums call w ≡ refused_handed 13 w
  unfolding with_sums
  list_refused wrong = rw wrong

  pub list_accepted : page_list_refused (length w.memory) (length sums) ≡ false → with_sums sums call w ≡ call w
  unfolding with_sums
  list_accepted right = rw right

  -- 13 comes behind 1
  pub memory_first : (length w.memory ≡ memory_length → ⊥) → with_sums sums call w ≡ call w
  memory_first m = list_accepted (memory_wrong (length w.memory) (length sums) m)

  -- and before all else
  pub list_next : length w.memory ≡ memory_length → (length sums ≡ page_count → ⊥)
      → with_sums sums call w ≡ refused_handed 13 w
  list_next m n = list_refused (list_wrong (length w.memory) (length sums) m n)

  -- "Unless 13 refuses it, a run with sums moves the machine just as a run lacking them."
  pub call_alike : length sums ≡ page_count → with_sums sums call w ≡ call w
  call_alike n = list_accepted (list_right (length w.memory) (length sums) n)

  -- a refused call leaves memory, and so the sums, as they were: by 13, or by the call lacking sums
  pub refused_unsummed : SixteenBits sums → (number : ℕ) → with_sums sums call w ≡ refused_handed number w
      → sums_after sums w.memory (with_sums sums call w).memory ≡ sums
  refused_unsummed words number e = rw e (sym (sums_kept 0 sums w.memory words))

-- ---- a list of calls; `lacking` is the list of those lacking sums

module _ {S : Type 0} (call : Call → WorldOf S → HandedOf S) where
  module _ (c : Call) (cs : List Call) (sums : List ℕ) (w : WorldOf S) where
    ended : running_in w ≡ false
        → calls_with_sums call (c ∷ cs) sums w ≡ listed_sums (record { world = w; results = [] }) sums
    unfolding calls_with_sums
    ended e = rw (e, calls_with_sums)

    going : running_in w ≡ true → (h : HandedOf S) → with_sums sums (call c) (lent_of w) ≡ h
        → calls_with_sums call (c ∷ cs) sums w
        ≡ (let later = calls_with_sums call cs (sums_after sums w.memory h.memory) (after_call_of w h) in
        listed_sums (listed h.result later.list) later.sums)
    unfolding calls_with_sums
    going e h same = rw (e, calls_with_sums) (rw same)

  -- with 256 sums the calls are those lacking sums, and the sums have changed as memory has
  module _ (lacking : List Call → WorldOf S → Listed (WorldOf S) (ResultOf S))
      (none : (w : WorldOf S) → lacking [] w ≡ record { world = w; results = [] })
      (over : (c : Call) (cs : List Call) (w : WorldOf S) → running_in w ≡ false
      → lacking (c ∷ cs) w ≡ record { world = w; results = [] })
      (next : (c : Call) (cs : List Call) (w : WorldOf S) → running_in w ≡ true
      → lacking (c ∷ cs) w ≡ listed (call c (lent_of w)).result (lacking cs (after_call_of w (call c (lent_of w))))) where
    pub list_with_sums : (cs : List Call) (sums : List ℕ) (w : WorldOf S) → length sums ≡ page_count → SixteenBits sums
        → calls_with_sums call cs sums w
        ≡ listed_sums (lacking cs w) (sums_after sums w.memory (lacking cs w).world.memory)
    unfolding calls_with_sums after_call_of
    list_with_sums [] sums w n words =
        rw (none w) (ap (listed_sums (record { world = w; results = [] })) (sums_kept 0 sums w.memory words))
    list_with_sums (c ∷ cs) sums w n words =
        let h = call c (lent_of w) in
        by_running (running_in w) refl
        (list_with_sums cs (sums_after sums w.memory h.memory) (after_call_of w h)
        (sums_length 0 sums w.memory h.memory ∙ n) (sixteen_after 0 sums w.memory h.memory))
      where
        h : HandedOf S
        h = call c (lent_of w)

        last : WorldOf S
        last = (lacking cs (after_call_of w h)).world

        between : List ℕ
        between = sums_after sums w.memory h.memory

        by_running : (t : Bool) → running_in w ≡ t
            → calls_with_sums call cs between (after_call_of w h)
            ≡ listed_sums (lacking cs (after_call_of w h)) (sums_after between h.memory last.memory)
            → calls_with_sums call (c ∷ cs) sums w
            ≡ listed_sums (lacking (c ∷ cs) w) (sums_after sums w.memory (lacking (c ∷ cs) w).world.memory)
        by_running false e later =
            rw (ended c cs sums w e, over c cs w e)
            (ap (listed_sums (record { world = w; results = [] })) (sums_kept 0 sums w.memory words))
        by_running true e later =
            rw (
              going c cs sums w e h (call_alike sums (call c) (lent_of w) n),
              next c cs w e,
              later,
              sums_twice 0 sums w.memory h.memory last.memory,
            )

    -- so each sum changes, right or wrong before, by exactly what its page's bytes change over the list
    pub list_exactly : (cs : List Call) (sums : List ℕ) (w : WorldOf S) → length sums ≡ page_count → SixteenBits sums
        → (p : ℕ) → p < page_count → let end = calls_with_sums call cs sums w in
        (sum_at end.sums p < sum_modulus)
        × ((sum_at end.sums p + page_sum p w.memory) % sum_modulus
        ≡ (sum_at sums p + page_sum p end.list.world.memory) % sum_modulus)
    list_exactly cs sums w n words p h =
        rw (list_with_sums cs sums w n words)
        (exactly_changed sums w.memory (lacking cs w).world.memory p (omega (arith, n)))

    -- and right sums are right at its end
    pub list_right_after : (cs : List Call) (sums : List ℕ) (w : WorldOf S) → length sums ≡ page_count → SixteenBits sums
        → Right sums w.memory → let end =
        calls_with_sums call cs sums w in Right end.sums end.list.world.memory
    list_right_after cs sums w n words right =
        rw (list_with_sums cs sums w n words) (right_after sums w.memory (lacking cs w).world.memory right)

  -- a call refused with a number that is no stop hands on world and sums as they were, and the list goes on with the
  -- rest
  pub refused_next : (number : ℕ) → stop_of number ≡ 0 → (c : Call) (cs : List Call) (sums : List ℕ) (w : WorldOf S)
      → with_sums sums (call c) (lent_of w) ≡ refused_handed number (lent_of w) → SixteenBits sums → w.stop ≡ 0
      → calls_with_sums call (c ∷ cs) sums w
      ≡ (let later = calls_with_sums call cs sums w in
      listed_sums (listed (refused_with number w.state) later.list) later.sums)
  refused_next number none c cs sums w refused words on =
      rw (
        going c cs sums w (rw on refl) (refused_handed number (lent_of w)) refused,
        refused_hands_on number w none on,
        sym (sums_kept 0 sums w.memory words),
      )

  -- where each call is refused with the same number, each hands on
  pub calls_refused_by : (number : ℕ) → stop_of number ≡ 0 → (cs : List Call) (sums : List ℕ) (w : WorldOf S)
      → ((c : Call) → with_sums sums (call c) (lent_of w) ≡ refused_handed number (lent_of w)) → SixteenBits sums
      → w.stop ≡ 0
      → calls_with_sums call cs sums w
      ≡ listed_sums (record { world = w; results = map (λ (c : Call). refused_with number w.state) cs }) sums
  unfolding calls_with_sums
  calls_refused_by number none [] sums w refused words on = refl
  calls_refused_by number none (c ∷ cs) sums w refused words on =
      rw (
        refused_next number none c cs sums w (refused c) words on,
        calls_refused_by number none cs sums w refused words on,
      )

  -- with another number of sums, and a memory of 65,536 bytes, that is 13: of the first call of a list, and of all
  module _ (sums : List ℕ) (w : WorldOf S) (m : length w.memory ≡ memory_length) (n : length sums ≡ page_count → ⊥)
      (words : SixteenBits sums) (on : w.stop ≡ 0) where
    pub thirteen_next : (c : Call) (cs : List Call)
        → calls_with_sums call (c ∷ cs) sums w
        ≡ (let later = calls_with_sums call cs sums w in
        listed_sums (listed (refused_with 13 w.state) later.list) later.sums)
    thirteen_next c cs = refused_next 13 thirteen_no_stop c cs sums w (list_next sums (call c) (lent_of w) m n) words on

    pub calls_refused : (cs : List Call)
        → calls_with_sums call cs sums w
        ≡ listed_sums (record { world = w; results = map (λ (c : Call). refused_with 13 w.state) cs }) sums
    calls_refused cs =
        calls_refused_by 13 thirteen_no_stop cs sums w (λ c. list_next sums (call c) (lent_of w) m n) words on

-- ---- of a chip

module _ {S : Type 0} (C : ChipRules S) where
  abbrev lacking_of : List Call → WorldOf S → Listed (WorldOf S) (ResultOf S)
  lacking_of = calls (machine_of C)

  calls_none : (w : WorldOf S) → lacking_of [] w ≡ record { world = w; results = [] }
  unfolding calls
  calls_none w = refl

  calls_over : (c : Call) (cs : List Call) (w : WorldOf S) → running_in w ≡ false
      → lacking_of (c ∷ cs) w ≡ record { world = w; results = [] }
  unfolding calls
  calls_over c cs w e = rw (e, calls)

  calls_next : (c : Call) (cs : List Call) (w : WorldOf S) → running_in w ≡ true
      → lacking_of (c ∷ cs) w
      ≡ listed (call_of (machine_of C) c (lent_of w)).result
      (lacking_of cs (after_call_of w (call_of (machine_of C) c (lent_of w))))
  unfolding calls
  calls_next c cs w e = rw (e, calls)

  module _ (cs : List Call) (sums : List ℕ) (w : WorldOf S) where
    pub calls_alike : length sums ≡ page_count → SixteenBits sums
        → calls_with_sums (call_of (machine_of C)) cs sums w
        ≡ listed_sums (calls (machine_of C) cs w) (sums_after sums w.memory (calls (machine_of C) cs w).world.memory)
    calls_alike n words =
        list_with_sums (call_of (machine_of C)) lacking_of calls_none calls_over calls_next cs sums w n words

    pub calls_exactly : length sums ≡ page_count → SixteenBits sums
        → (p : ℕ) → p < page_count → let end = calls_with_sums (call_of (machine_of C)) cs sums w in
        (sum_at end.sums p < sum_modulus)
        × ((sum_at end.sums p + page_sum p w.memory) % sum_modulus
        ≡ (sum_at sums p + page_sum p end.list.world.memory) % sum_modulus)
    calls_exactly n words p h =
        list_exactly (call_of (machine_of C)) lacking_of calls_none calls_over calls_next cs sums w n words p h

    pub calls_right_after : length sums ≡ page_count → SixteenBits sums → Right sums w.memory
        → let end = calls_with_sums (call_of (machine_of C)) cs sums w in Right end.sums end.list.world.memory
    calls_right_after n words right =
        list_right_after (call_of (machine_of C)) lacking_of calls_none calls_over calls_next cs sums w n words right

  -- DEMAND 3 of a list of calls with 256 sums: what plain clocks say, and the sums changed by exactly what the pages'
  -- bytes change over them
  pub fair_with_sums : ChipLaws C → (cs : List Call) (sums : List ℕ) (w : WorldOf S) → Room w
      → length sums ≡ page_count → SixteenBits sums
      → calls_with_sums (call_of (machine_of C)) cs sums w
      ≡ (let end = plains (system_of C) (clocks_accepted (machine_of C) cs w) w in
      listed_sums (record { world = end; results = results_by (machine_of C) cs w })
      (sums_after sums w.memory end.memory))
  fair_with_sums L cs sums w room n words = calls_alike cs sums w n words ∙ rw (fair C L cs w room) refl

  -- a memory of another length is 1, whatever the page list
  memory_refused : C.limits.memory ≡ memory_length → (c : Call) (w : WorldOf S)
      → (length w.memory ≡ memory_length → ⊥)
      → call_of (machine_of C) c w ≡ refused_handed 1 w
  unfolding call_of step_of run_of refusal_of
  memory_refused e single_clock w m = rw (e, ne_eqb (length w.memory) memory_length m)
  memory_refused e (run_for n) w m = rw (e, ne_eqb (length w.memory) memory_length m)

  pub memory_hands_on : C.limits.memory ≡ memory_length → (cs : List Call) (sums : List ℕ) (w : WorldOf S)
      → (length w.memory ≡ memory_length → ⊥) → SixteenBits sums → w.stop ≡ 0
      → calls_with_sums (call_of (machine_of C)) cs sums w
      ≡ listed_sums (record { world = w; results = map (λ (c : Call). refused_with 1 w.state) cs }) sums
  memory_hands_on e cs sums w m words on =
      calls_refused_by (call_of (machine_of C)) 1 one_no_stop cs sums w
      (λ c. memory_first sums (call_of (machine_of C) c) (lent_of w) m ∙ memory_refused e c (lent_of w) m) words on
