-- Demand 3 of the R6501Q with page sums (document 02, U7): the theory's, of this chip.
use Rattle.std.specs.Prelude.{Option}
use mathlib.Core.Path.{◌≡◌, refl}
use mathlib.Core.List.{List, ◌∷◌, map}
use Prim.Native.Nat.{ℕ, ◌+◌, ◌%◌, ◌<◌}
use native.Mathlib.Omega.{arith}
use lib.ListN.{length}
use Rattle.memory.specs.Memory.{memory_length}
use Rattle.page_sums.specs.PageSums.{page_count, sum_modulus, sum_at, page_sum, sums_after, SixteenBits, Right}
use Rattle.leaps.specs.Leaps.{plains}
use Rattle.leaps.specs.CallLists.{Call, call_of, listed, calls, clocks_accepted, results_by}
use Rattle.leaps.specs.Calls.{call_start, refused_with, Room}
use Rattle.leaps.specs.Summed.{ListedSums, listed_sums, calls_with_sums}
use Rattle.leaps.proofs.Summed as theory
use Rattle.r6501q_state.specs.declared.state.State.{State}
use Rattle.r6501q_chip.specs.R6501q.{World, r6501q, system, machine}
use Rattle.r6501q_leap.proofs.Laws.{laws}

module _ (halt : Option ℕ) (cs : List Call) (sums : List ℕ) (w : World) where
  -- what a list of calls with these sums leaves
  abbrev end : ListedSums State
  end = calls_with_sums (call_of (machine halt)) cs sums w

  -- what n plain clocks say, and the sums changed as memory is by them
  abbrev pub FairWithSums : Type 0
  FairWithSums =
      end
      ≡ (let v = plains (system halt) (clocks_accepted (machine halt) cs w) w in
      listed_sums (record { world = v; results = results_by (machine halt) cs w })
      (sums_after sums w.memory v.memory))

  -- with 256 sums, each of 16 bits
  pub fair_with_sums : Room w → length sums ≡ page_count → SixteenBits sums → FairWithSums
  fair_with_sums room n words = theory.fair_with_sums (r6501q halt) (laws halt) cs sums w room n words

  -- "Unless 13 refuses it, a run with sums moves the machine just as a run lacking them", of the list
  pub calls_alike : length sums ≡ page_count → SixteenBits sums
      → end
      ≡ listed_sums (calls (machine halt) cs w) (sums_after sums w.memory (calls (machine halt) cs w).world.memory)
  calls_alike n words = theory.calls_alike (r6501q halt) cs sums w n words

  -- "changes each sum, right or wrong before, by exactly what its page's bytes change, modulo 65,536", over the list
  pub exactly_changed : length sums ≡ page_count → SixteenBits sums → (p : ℕ) → p < page_count
      → (sum_at end.sums p < sum_modulus)
      × ((sum_at end.sums p + page_sum p w.memory) % sum_modulus
      ≡ (sum_at sums p + page_sum p end.list.world.memory) % sum_modulus)
  exactly_changed n words p h = theory.calls_exactly (r6501q halt) cs sums w n words p h

  -- right before, right after
  pub right_after : length sums ≡ page_count → SixteenBits sums → Right sums w.memory
      → Right end.sums end.list.world.memory
  right_after n words right = theory.calls_right_after (r6501q halt) cs sums w n words right

  -- with another number of sums each call is refused by 13, which is no stop, and hands on
  pub thirteen_hands_on : length w.memory ≡ memory_length → (length sums ≡ page_count → ⊥) → SixteenBits sums
      → w.stop ≡ 0
      → end ≡ listed_sums (record { world = w; results = map (λ (c : Call). refused_with 13 w.state) cs }) sums
  thirteen_hands_on m n words on = theory.calls_refused (call_of (machine halt)) sums w m n words on cs

  -- one such call before any list of calls: it is refused, and the list goes on from the same world, with the same sums
  pub thirteen_next : length w.memory ≡ memory_length → (length sums ≡ page_count → ⊥) → SixteenBits sums → w.stop ≡ 0
      → (c : Call)
      → calls_with_sums (call_of (machine halt)) (c ∷ cs) sums w
      ≡ listed_sums (listed (refused_with 13 w.state) end.list) end.sums
  thirteen_next m n words on c = theory.thirteen_next (call_of (machine halt)) sums w m n words on c cs

  -- with a memory of another length it is 1, whatever the page list
  pub one_hands_on : (length w.memory ≡ memory_length → ⊥) → SixteenBits sums → w.stop ≡ 0
      → end ≡ listed_sums (record { world = w; results = map (λ (c : Call). refused_with 1 w.state) cs }) sums
  one_hands_on m words on = theory.memory_hands_on (r6501q halt) refl cs sums w m words on

-- the same from any state, memory and lists: a start has nothing written, so that it needs no room
pub fair_with_sums_start : (halt : Option ℕ) (cs : List Call) (sums : List ℕ) (s : State)
    (memory input_clocks input_codes output_clocks output_words : List ℕ) → length sums ≡ page_count → SixteenBits sums
    → FairWithSums halt cs sums (call_start s memory input_clocks input_codes output_clocks output_words)
fair_with_sums_start halt cs sums s memory input_clocks input_codes output_clocks output_words n words =
    fair_with_sums halt cs sums _ (record { output_clocks = omega arith; output_words = omega arith }) n words
