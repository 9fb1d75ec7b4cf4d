-- The exported calls with page sums (document 02, U7).
use mathlib.Core.Path.{◌≡◌, refl, ap, ◌∙◌}
use mathlib.Core.Bool.{Bool, true, false, cond}
use mathlib.Core.List.{List, [], ◌∷◌, map}
use Prim.Native.Nat.{ℕ, ◌+◌, ◌%◌, ◌<◌}
use native.Mathlib.Omega.{arith}
use lib.ListN.{length}
use borrow.Author.Tests.{ne_eqb}
use Rattle.memory.specs.Memory.{memory_length}
use Rattle.page_sums.specs.PageSums.{page_count, sum_modulus, sum_at, page_sum, sums_after, SixteenBits, Right}
use Rattle.refusals.specs.Refusals.{refusal_of}
use Rattle.leaps.specs.World.{running_in}
use Rattle.leaps.specs.CallLists.{Call, count_of, listed}
use Rattle.leaps.specs.Calls.{call_start, refused_handed, refused_with, lent_of, after_call_of, Room}
use Rattle.leaps.specs.Summed.{ListedSums, with_sums, listed_sums, calls_with_sums}
use Rattle.leaps.proofs.Summed as theory
use Rattle.r6501q_host.specs.declared.HostState.{HostState}
use Rattle.r6501q_host.specs.Host.{flags_fit}
use Rattle.r6501q.specs.Calls.{HostWorld, host_well_formed, host_refusal_of}
use Rattle.r6501q.specs.CallLists.{HostListed, host_called, host_calls, host_plain, refused_each}
use Rattle.r6501q.proofs.Laws.{exported_refused}
use Rattle.r6501q.proofs.Fair.{host_fair}

-- "Over C 13 comes before a flag's 2", and whatever else does not fit
pub thirteen_first : (halt : ℕ) (c : Call) (sums : List ℕ) (w : HostWorld) → length w.memory ≡ memory_length
    → (length sums ≡ page_count → ⊥) → with_sums sums (host_called halt c) w ≡ refused_handed 13 w
thirteen_first halt c sums w m n = theory.list_next sums (host_called halt c) w m n

-- a memory of another length is 1, whatever page list, flags and halt address
memory_number : (formed : Bool) (n : ℕ) (w : HostWorld) → (length w.memory ≡ memory_length → ⊥)
    → host_refusal_of formed n w ≡ 1
unfolding refusal_of
memory_number formed n w m = rw (ne_eqb (length w.memory) memory_length m)

pub one_first : (halt : ℕ) (c : Call) (sums : List ℕ) (w : HostWorld) → (length w.memory ≡ memory_length → ⊥)
    → with_sums sums (host_called halt c) w ≡ refused_handed 1 w
one_first halt c sums w m =
    let one = memory_number (host_well_formed w.state) (count_of c) w m in
    theory.memory_first sums (host_called halt c) w m ∙ exported_refused halt c w (rw one)
    ∙ ap (λ (number : ℕ). refused_handed number w) one

-- ---- a list of exported calls

hosts_none : (halt : ℕ) (w : HostWorld) → host_calls halt [] w ≡ record { world = w; results = [] }
unfolding host_calls
hosts_none halt w = refl

hosts_over : (halt : ℕ) (c : Call) (cs : List Call) (w : HostWorld) → running_in w ≡ false
    → host_calls halt (c ∷ cs) w ≡ record { world = w; results = [] }
unfolding host_calls
hosts_over halt c cs w e = rw (e, host_calls)

hosts_next : (halt : ℕ) (c : Call) (cs : List Call) (w : HostWorld) → running_in w ≡ true
    → host_calls halt (c ∷ cs) w
    ≡ listed (host_called halt c (lent_of w)).result (host_calls halt cs (after_call_of w (host_called halt c (lent_of w))))
unfolding host_calls
hosts_next halt c cs w e = rw (e, host_calls)

module _ (halt : ℕ) (cs : List Call) (sums : List ℕ) (w : HostWorld) where
  -- what a list of exported calls with these sums leaves
  abbrev end : ListedSums HostState
  end = calls_with_sums (host_called halt) cs sums w

  -- what `host_fair` says of the calls lacking sums: plain clocks where flags and none waiting fit, else each is
  -- refused
  abbrev pub said_of : HostListed
  said_of = cond (flags_fit w.state) (host_plain halt cs w) (record { world = w; results = refused_each cs w })

  abbrev pub HostFairWithSums : Type 0
  HostFairWithSums = end ≡ listed_sums said_of (sums_after sums w.memory said_of.world.memory)

  -- with 256 sums they are the calls lacking sums, and the sums have changed as memory has
  pub host_calls_alike : length sums ≡ page_count → SixteenBits sums
      → end ≡ listed_sums (host_calls halt cs w) (sums_after sums w.memory (host_calls halt cs w).world.memory)
  host_calls_alike n words =
      theory.list_with_sums (host_called halt) (host_calls halt) (hosts_none halt) (hosts_over halt) (hosts_next halt) cs
      sums w n words

  -- DEMAND 3 of the exported calls with 256 sums
  pub host_fair_with_sums : Room w → length sums ≡ page_count → SixteenBits sums → HostFairWithSums
  host_fair_with_sums room n words =
      host_calls_alike n words
      ∙ ap (λ (l : HostListed). listed_sums l (sums_after sums w.memory l.world.memory)) (host_fair halt cs w room)

  -- each sum changes, right or wrong before, by exactly what its page's bytes change over the list
  pub host_exactly : length sums ≡ page_count → SixteenBits sums → (p : ℕ) → p < page_count
      → (sum_at end.sums p < sum_modulus)
      × ((sum_at end.sums p + page_sum p w.memory) % sum_modulus
      ≡ (sum_at sums p + page_sum p end.list.world.memory) % sum_modulus)
  host_exactly n words p h =
      theory.list_exactly (host_called halt) (host_calls halt) (hosts_none halt) (hosts_over halt) (hosts_next halt) cs
      sums w n words p h

  -- right before, right after
  pub host_right_after : length sums ≡ page_count → SixteenBits sums → Right sums w.memory
      → Right end.sums end.list.world.memory
  host_right_after n words right =
      theory.list_right_after (host_called halt) (host_calls halt) (hosts_none halt) (hosts_over halt) (hosts_next halt)
      cs sums w n words right

  -- with another number each is refused by 13 and hands on
  pub host_thirteen_hands_on : length w.memory ≡ memory_length → (length sums ≡ page_count → ⊥) → SixteenBits sums
      → w.stop ≡ 0
      → end ≡ listed_sums (record { world = w; results = map (λ (c : Call). refused_with 13 w.state) cs }) sums
  host_thirteen_hands_on m n words on = theory.calls_refused (host_called halt) sums w m n words on cs

  -- one such call before any list of calls: it is refused, and the list goes on from the same world, with the same sums
  pub host_thirteen_next : length w.memory ≡ memory_length → (length sums ≡ page_count → ⊥) → SixteenBits sums
      → w.stop ≡ 0
      → (c : Call)
      → calls_with_sums (host_called halt) (c ∷ cs) sums w
      ≡ listed_sums (listed (refused_with 13 w.state) end.list) end.sums
  host_thirteen_next m n words on c = theory.thirteen_next (host_called halt) sums w m n words on c cs

  -- with a memory of another length it is 1, whatever the page list
  pub host_one_hands_on : (length w.memory ≡ memory_length → ⊥) → SixteenBits sums → w.stop ≡ 0
      → end ≡ listed_sums (record { world = w; results = map (λ (c : Call). refused_with 1 w.state) cs }) sums
  host_one_hands_on m words on =
      theory.calls_refused_by (host_called halt) 1 theory.one_no_stop cs sums w (λ c. one_first halt c sums (lent_of w) m)
      words on

-- the same from any state, memory and lists: a start has nothing written, so that it needs no room
pub host_fair_with_sums_start : (halt : ℕ) (cs : List Call) (sums : List ℕ) (h : HostState)
    (memory input_clocks input_codes output_clocks output_words : List ℕ) → length sums ≡ page_count → SixteenBits sums
    → HostFairWithSums halt cs sums (call_start h memory input_clocks input_codes output_clocks output_words)
host_fair_with_sums_start halt cs sums h memory input_clocks input_codes output_clocks output_words n words =
    host_fair_with_sums halt cs sums _ (record { output_clocks = omega arith; output_words = omega arith }) n words
