-- 02, U8, of the run: a fresh chip without inputs stays held, and one that is given RES high on clock 1 runs as it did
-- from the old start.
use Rattle.std.specs.Prelude.{Option}
use mathlib.Core.Path.{◌≡◌, refl, sym, ap, ap₂, ◌∙◌}
use mathlib.Core.Bool.{Bool, true, false, cond}
use mathlib.Core.List.{List, [], ◌∷◌, ◌++◌}
use Prim.Native.Nat.{ℕ, zero, suc, ◌+◌, ◌≤◌}
use native.Mathlib.Nat.{zero-add}
use native.Mathlib.Omega.{arith}
use lib.Dec.{eqb}
use lib.ListN.{length, take}
use borrow.Author.Tests.{eq-eqb}
use Rattle.memory.specs.Memory.{memory_length}
use Rattle.pin_lists.specs.PinLists.{pin_of, pins_right, input_count}
use Rattle.pin_lists.proofs.PinLists.{input_count_within}
use Rattle.refusals.specs.Refusals.{last_clock}
use Rattle.refusals.proofs.Accepted.{accepted}
use Rattle.leaps.specs.Leaps.{events_in, quiet_end, plains, trace, leap_count}
use Rattle.leaps.specs.World.{event_in}
use Rattle.leaps.specs.CallLists.{run_of, plain_run_of}
use Rattle.leaps.specs.Calls.{call_start, handed_back_of, refusal_in, Room, Fit}
use Rattle.leaps.proofs.Laws.{trace_done}
use Rattle.leaps.proofs.Parts.{whole_of, plains_whole, trace_whole}
use Rattle.leaps.proofs.Calls as theory
use Rattle.r6501q_state.specs.State.{fresh, well_formed}
use Rattle.r6501q_state.specs.Inputs.{last_pin}
use Rattle.r6501q_state.proofs.Ranges.{fresh_formed}
use Rattle.r6501q_chip.specs.R6501q.{World, Handed, r6501q_limits, r6501q, plain, system, machine}
use Rattle.r6501q_chip.proofs.Held.{held_state, held_leaps, held_clocks, held_leaps_lem}
use Rattle.r6501q_chip.proofs.ReleaseLists.{below_res}
use Rattle.r6501q_chip.proofs.Released.{released_start, old_start, one_more_read, first_plain, first_event, start_done}
use Rattle.r6501q_chip.proofs.Released.{old_done, refusal_same, given_plain, given_event, given_done}
use Rattle.r6501q_leap.proofs.Laws.{laws, lawful}

-- a call's start has nothing written
start_room : (w : World) → w.written ≡ 0 → Room w
start_room w none = record { output_clocks = omega (arith, none); output_words = omega (arith, none) }

-- what a call that is not refused hands back, by plain clocks
accepted_run : (halt : Option ℕ) (n : ℕ) (w : World) → w.written ≡ 0 → eqb (refusal_in (r6501q halt) n w) 0 ≡ true
    → run_of (machine halt) n w ≡ handed_back_of (leap_count (system halt) n w) (plains (system halt) n w)
unfolding plain_run_of
accepted_run halt n w none e = theory.runs_plainly (r6501q halt) (laws halt) n w (start_room w none) ∙ rw e

-- ---- "A fresh chip with no inputs"

fresh_fits : (halt : Option ℕ) (memory times words : List ℕ) → length memory ≡ memory_length → length times ≡ length words
    → Fit (r6501q halt) (call_start fresh memory [] [] times words)
unfolding fresh pins_right
fresh_fits halt memory times words whole equal =
    record { memory = whole; state = fresh_formed; pins = refl; outputs = equal; written = omega arith }

fresh_clock : fresh.clock ≡ 0
unfolding fresh
fresh_clock = refl

-- "stays without a CPU start for any n that fits the clock, its counters still counting, and leaping agrees there too":
-- the run by leaps, for any memory, halt address and output space
pub held_run : (halt : Option ℕ) (n : ℕ) (memory times words : List ℕ) → n ≤ last_clock → length memory ≡ memory_length
    → length times ≡ length words
    → run_of (machine halt) n (call_start fresh memory [] [] times words)
    ≡ record {
      result = record { number = 0; state = held_state n; leaps = held_leaps n; read = 0; written = 0 };
      memory = memory;
      output_clocks = times;
      output_words = words;
    }
held_run halt n memory times words h whole equal =
    let w = call_start fresh memory [] [] times words in
    accepted_run halt n w refl
    (theory.accepted_call (r6501q halt) (laws halt) n w (fresh_fits halt memory times words whole equal)
    (omega (arith, h, fresh_clock)))
    ∙ rw (held_leaps_lem halt memory times words n, held_clocks halt memory times words n)

-- ---- with RES high on clock 1

-- what is handed back with one input more read
abbrev pub one_more_back : Handed → Handed
one_more_back h = record {
  result = record {
    number = h.result.number;
    state = h.result.state;
    leaps = h.result.leaps;
    read = h.result.read + 1;
    written = h.result.written;
  };
  memory = h.memory;
  output_clocks = h.output_clocks;
  output_words = h.output_words;
}

-- no clock hangs on how many inputs were read: the whole of which a world is the part behind one input
abbrev one_read : World
one_read = record {
  state = fresh;
  memory = [];
  input_clocks = [];
  input_codes = [];
  output_clocks = [];
  output_words = [];
  read = 1;
  written = 0;
  stop = 0;
}

whole_one : (v : World) → whole_of one_read v ≡ one_more_read v
whole_one v = let read : 1 + v.read ≡ v.read + 1 = omega arith in rw (read, zero-add v.written)

module _ (halt : Option ℕ) where
  plains_more : (n : ℕ) (v : World) → plains (system halt) n (one_more_read v) ≡ one_more_read (plains (system halt) n v)
  plains_more n v =
      ap (plains (system halt) n) (sym (whole_one v)) ∙ plains_whole (r6501q halt) n one_read v (start_room one_read refl)
      ∙ whole_one (plains (system halt) n v)

  trace_more : (n : ℕ) (v : World) → trace (system halt) n (one_more_read v) ≡ trace (system halt) n v
  trace_more n v =
      ap (trace (system halt) n) (sym (whole_one v))
      ∙ trace_whole (r6501q halt) (laws halt) n one_read v (start_room one_read refl)

  -- two starts whose first clocks are done and are both event clocks or neither
  count_same : (n : ℕ) (w v : World) → (system halt).done w ≡ true → (system halt).done v ≡ true
      → (system halt).event w ≡ (system halt).event v
      → trace (system halt) n (plain halt w) ≡ trace (system halt) n (plain halt v)
      → leap_count (system halt) (suc n) w ≡ leap_count (system halt) (suc n) v
  unfolding leap_count
  count_same n w v done done' event later =
      rw (
        trace_done (system halt) (lawful halt) n w done,
        trace_done (system halt) (lawful halt) n v done',
        event,
        later,
      )

  module _ (memory clocks codes times words : List ℕ) (below : below_res (take (input_count 1 clocks) codes) ≡ true) where
    abbrev start : World
    start = released_start memory clocks codes times words

    abbrev old : World
    old = old_start memory clocks codes times words

    -- the clocks that are done
    pub released_plains : (n : ℕ) → input_count 1 clocks ≤ length codes
        → plains (system halt) (suc n) start ≡ one_more_read (plains (system halt) (suc n) old)
    unfolding plains
    released_plains n within =
        ap (plains (system halt) n) (first_plain halt memory clocks codes times words below within)
        ∙ plains_more n (plain halt old)

    released_count : (n : ℕ) → input_count 1 clocks ≤ length codes
        → leap_count (system halt) (suc n) start ≡ leap_count (system halt) (suc n) old
    released_count n within =
        count_same n start old (start_done halt memory clocks codes times words below within)
        (old_done halt memory clocks codes times words)
        (first_event halt memory clocks codes times words below within)
        (ap (trace (system halt) n) (first_plain halt memory clocks codes times words below within)
        ∙ trace_more n (plain halt old))

    -- "their output must be what it was, but for the one input more that is read": for every n above 0, memory, halt
    -- address, output space and further list, clock 1's other pins too
    pub released_run : (n : ℕ) → refusal_in (r6501q halt) (suc n) old ≡ 0
        → run_of (machine halt) (suc n) start ≡ one_more_back (run_of (machine halt) (suc n) old)
    released_run n none =
        let same = refusal_same halt (suc n) memory clocks codes times words below in
        let equal =
        (accepted r6501q_limits _ _ (length memory) clocks codes (length times) (length words) (suc n) none).inputs in
        let within : input_count 1 clocks ≤ length codes = omega (arith, equal, input_count_within 1 clocks) in
        rw (
          accepted_run halt (suc n) start refl (eq-eqb (refusal_in (r6501q halt) (suc n) start) 0 (same ∙ none)),
          accepted_run halt (suc n) old refl (eq-eqb (refusal_in (r6501q halt) (suc n) old) 0 none),
          released_plains n within,
          released_count n within,
        )

    -- no clock: nothing is read
    pub released_none : refusal_in (r6501q halt) 0 old ≡ 0 → run_of (machine halt) 0 start ≡ handed_back_of 0 start
    unfolding leap_count trace plains events_in quiet_end
    released_none none =
        accepted_run halt 0 start refl
        (eq-eqb (refusal_in (r6501q halt) 0 start) 0 (refusal_same halt 0 memory clocks codes times words below ∙ none))

  -- a list that sets RES on clock 1 itself: in all what it was
  module _ (memory clocks codes times words front : List ℕ) (code : ℕ)
      (given : take (input_count 1 clocks) codes ≡ front ++ (code ∷ []))
      (below : below_res front ≡ true) (res : pin_of code ≡ last_pin) where
    abbrev given_start : World
    given_start = call_start fresh memory clocks codes times words

    abbrev given_old : World
    given_old = old_start memory clocks codes times words

    refused_alike : (n : ℕ) → refusal_in (r6501q halt) n given_start ≡ refusal_in (r6501q halt) n given_old
    unfolding fresh well_formed
    refused_alike n = refl

    pub given_run : (n : ℕ) → refusal_in (r6501q halt) (suc n) given_old ≡ 0
        → run_of (machine halt) (suc n) given_start ≡ run_of (machine halt) (suc n) given_old
    unfolding plains
    given_run n none =
        let first = given_plain halt memory clocks codes times words front code given below res in
        let count =
        count_same n given_start given_old (given_done halt memory clocks codes times words front code given below res)
        (old_done halt memory clocks codes times words)
        (given_event halt memory clocks codes times words front code given below res)
        (ap (trace (system halt) n) first) in
        accepted_run halt (suc n) given_start refl
        (eq-eqb (refusal_in (r6501q halt) (suc n) given_start) 0 (refused_alike (suc n) ∙ none))
        ∙ ap₂ (λ (leaps : ℕ) (w : World). handed_back_of leaps w) count (ap (plains (system halt) n) first)
        ∙ sym (accepted_run halt (suc n) given_old refl (eq-eqb (refusal_in (r6501q halt) (suc n) given_old) 0 none))
