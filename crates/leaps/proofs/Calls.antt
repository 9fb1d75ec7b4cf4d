-- Demand 3 of every chip that keeps its laws: the list of calls, the cut, and the first half's inputs.
use mathlib.Core.Path.{◌≡◌, refl, sym, ap, ◌∙◌}
use mathlib.Core.Bool.{Bool, true, false, not, ◌||◌, false≢true}
use mathlib.Core.List.{List, [], ◌∷◌}
use Prim.Native.Nat.{ℕ, zero, suc, ◌+◌, ◌-◌, ◌≤◌, ◌<◌}
use native.Mathlib.Nat.{add-zero, zero-add}
use native.Mathlib.Omega.{arith}
use lib.Dec.{ltb, eqb}
use lib.ListN.{length, drop, get_or, length-drop, take-append-drop}
use borrow.Author.Tests.{eqb-true, eqb-false, eq-eqb, ne_eqb}
use Rattle.pin_lists.specs.PinLists.{pins_right}
use Rattle.pin_lists.proofs.PinLists.{right_lengths, right_above}
use Rattle.refusals.specs.declared.Limits.{Limits}
use Rattle.refusals.specs.Refusals.{last_clock, first_of, refusal_of}
use Rattle.refusals.proofs.Accepted.{accepted, accepts}
use Rattle.leaps.specs.Leaps.{plains, leap_count, trace, leading_quiet}
use Rattle.leaps.specs.Chip.{ChipRules}
use Rattle.leaps.specs.World.{WorldOf, plain_of, running_in, done_in, system_of}
use Rattle.leaps.specs.CallLists.{Machine, Call, run_for, calls, FairOf, step_of, run_of, plain_run_of}
use Rattle.leaps.specs.Calls.{ResultOf, HandedOf, stop_of, call_start, handed_back_of, lent_of}
use Rattle.leaps.specs.Calls.{after_call_of, result_by_of, refusal_in, refused_handed, refused_call, machine_of, Room}
use Rattle.leaps.specs.Calls.{Fit}
use Rattle.leaps.proofs.Laws.{plains_stopped, gap_leads}
use Rattle.leaps.proofs.CallLists as lists
use Rattle.leaps.proofs.CallLists.{Callable}
use Rattle.leaps.proofs.Chips.{ChipLaws, lawful, no_gap_event, plain_fits, plains_stop, clock_most}
use Rattle.leaps.proofs.Parts.{whole_of, plains_rest, plains_whole, lent_whole, count_whole}

-- what is lent is refused just where the whole is: the output lists lose as much of their lengths
drop_eqb : (k : ℕ) (l m : List ℕ) → k ≤ length l → k ≤ length m
    → eqb (length (drop k l)) (length (drop k m)) ≡ eqb (length l) (length m)
drop_eqb k l m a b = rw (length-drop k l, length-drop k m) (by_test (eqb (length l) (length m)) refl)
  where
    by_test : (t : Bool) → eqb (length l) (length m) ≡ t → eqb (length l - k) (length m - k) ≡ t
    by_test true e = let same = eqb-true (length l) (length m) e in eq-eqb (length l - k) (length m - k) (omega arith)
    by_test false e = ne_eqb (length l - k) (length m - k) (λ z. eqb-false (length l) (length m) e (omega arith))

-- the number of a refusal is no stop
pub refusal_no_stop : (limits : Limits) (formed : Bool) (clock bytes : ℕ) (clocks codes : List ℕ) (times words n : ℕ)
    → stop_of (refusal_of limits formed clock bytes clocks codes times words n) ≡ 0
unfolding stop_of refusal_of
refusal_no_stop limits formed clock bytes clocks codes times words n =
    first (not (eqb bytes limits.memory)) (not formed)
    (not (eqb (length clocks) (length codes)) || not (eqb times words))
    (ltb last_clock (clock + n)) (not (pins_right limits.pin clock clocks codes))
  where
    first : (a b c d e : Bool) → stop_of (first_of ((1, a) ∷ (2, b) ∷ (3, c) ∷ (4, d) ∷ (5, e) ∷ [])) ≡ 0
    first true b c d e = refl
    first false true c d e = refl
    first false false true d e = refl
    first false false false true e = refl
    first false false false false true = refl
    first false false false false false = refl

zero_no_stop : stop_of 0 ≡ 0
unfolding stop_of
zero_no_stop = refl

-- "A refused call hands on what it got"
pub refused_hands_on : {S : Type 0} (number : ℕ) (w : WorldOf S) → stop_of number ≡ 0 → w.stop ≡ 0
    → after_call_of w (refused_handed number (lent_of w)) ≡ w
unfolding after_call_of
refused_hands_on number w none on =
    rw (
      take-append-drop w.written w.output_clocks,
      take-append-drop w.written w.output_words,
      add-zero w.read,
      add-zero w.written,
      none,
      ← on,
    )

module _ {S : Type 0} (C : ChipRules S) (L : ChipLaws C) where
  abbrev M : Machine (WorldOf S) (HandedOf S) (ResultOf S)
  M = machine_of C

  pub fit_room : (w : WorldOf S) → Fit C w → Room w
  fit_room w f = record { output_clocks = f.written; output_words = rw (← f.outputs) f.written }

  refusal_lent : (n : ℕ) (w : WorldOf S) → Room w → refusal_in C n (lent_of w) ≡ refusal_in C n w
  unfolding refusal_of
  refusal_lent n w room =
      rw (drop_eqb w.written w.output_clocks w.output_words room.output_clocks room.output_words)

  -- what is not refused is of demand 3
  pub fit_call : (n : ℕ) (w : WorldOf S) → Room w → refusal_in C n w ≡ 0 → Fit C w
  fit_call n w room e =
      let a = accepted C.limits (C.well_formed w.state) (C.clock w.state) (length w.memory)
      w.input_clocks w.input_codes
      (length w.output_clocks) (length w.output_words) n e in
      record {
        memory = a.memory;
        state = a.state;
        pins = a.pins;
        outputs = a.outputs;
        written = room.output_clocks;
      }

  -- a call that fits the clock is not refused
  pub accepted_call : (n : ℕ) (w : WorldOf S) → Fit C w → C.clock w.state + n ≤ last_clock
      → eqb (refusal_in C n w) 0 ≡ true
  accepted_call n w f h =
      eq-eqb (refusal_in C n w) 0
      (accepts C.limits (C.well_formed w.state) (C.clock w.state) (length w.memory) w.input_clocks
      w.input_codes
      (length w.output_clocks) (length w.output_words) n
      (record {
        memory = f.memory;
        state = f.state;
        inputs = right_lengths C.limits.pin (C.clock w.state) w.input_clocks w.input_codes f.pins;
        outputs = f.outputs;
        most = h;
        pins = f.pins;
      }))

  -- ---- one call

  module _ (n : ℕ) (w : WorldOf S) (room : Room w) (on : w.stop ≡ 0) where
    abbrev end : WorldOf S
    end = plains (system_of C) n (lent_of w)

    whole_end : whole_of w end ≡ plains (system_of C) n w
    whole_end = sym (plains_whole C n w (lent_of w) room) ∙ ap (plains (system_of C) n) (lent_whole w on)

    -- what a call that is not refused leaves
    done_world : (leaps : ℕ) → after_call_of w (handed_back_of leaps end) ≡ plains (system_of C) n w
    unfolding after_call_of
    done_world leaps =
        let r = plains_rest C n (lent_of w) in
        let count : end.read ≡ r.count = r.read ∙ zero-add r.count in
        let clocks : drop end.read w.input_clocks ≡ end.input_clocks =
        ap (λ (k : ℕ). drop k w.input_clocks) count ∙ sym r.input_clocks in
        let codes : drop end.read w.input_codes ≡ end.input_codes =
        ap (λ (k : ℕ). drop k w.input_codes) count ∙ sym r.input_codes in
        rw (clocks, codes, plains_stop C L n (lent_of w) zero_no_stop) whole_end

    -- and its result
    done_result : (leaps : ℕ) → (handed_back_of leaps end).result ≡ result_by_of leaps w (plains (system_of C) n w)
    done_result leaps =
        let read : w.read + end.read - w.read ≡ end.read = omega arith in
        let written : w.written + end.written - w.written ≡ end.written = omega arith in
        rw (← whole_end, read, written)

    lent_count : leap_count (system_of C) n (lent_of w) ≡ leap_count (system_of C) n w
    lent_count = sym (count_whole C L n w (lent_of w) room) ∙ ap (leap_count (system_of C) n) (lent_whole w on)

    refused_world : after_call_of w (refused_call C n (lent_of w)) ≡ w
    refused_world =
        refused_hands_on (refusal_in C n (lent_of w)) w
        (refusal_no_stop C.limits (C.well_formed w.state) (C.clock w.state) (length w.memory)
        w.input_clocks w.input_codes
        (length (lent_of w).output_clocks) (length (lent_of w).output_words) n) on

  -- ---- the machine keeps the laws of calls

  abbrev callable : Callable M
  callable = record {
    lawful = lawful C L;
    Fit = Fit C;
    fit_room = fit_room;
    fit_kept = plain_fits C L;
    accepts_fit = λ n w room e. fit_call n w room (eqb-true (refusal_in C n w) 0 e);
    gap_event = no_gap_event C L;
    lent_room = λ w. record { output_clocks = omega arith; output_words = omega arith };
    lent_accepts = λ n w room. rw (refusal_lent n w room);
    lent_count = λ n w room on. lent_count n w room (eqb-true w.stop 0 on);
    done_world = λ n leaps w room on. done_world n w room (eqb-true w.stop 0 on) leaps;
    done_result = λ n leaps w room on. done_result n w room (eqb-true w.stop 0 on) leaps;
    refused_world = λ n w room on. refused_world n w room (eqb-true w.stop 0 on);
    refused_result = λ n w room. rw (refusal_lent n w room);
  }

  pub fair : (cs : List Call) (w : WorldOf S) → Room w → FairOf M cs w
  fair cs w room = lists.fair M callable cs w room

  -- the same from any state, memory and lists: a start has nothing written, so that it needs no premise
  pub fair_start : (cs : List Call) (s : S) (memory input_clocks input_codes output_clocks output_words : List ℕ)
      → FairOf M cs (call_start s memory input_clocks input_codes output_clocks output_words)
  fair_start cs s memory input_clocks input_codes output_clocks output_words =
      fair cs _ (record { output_clocks = omega arith; output_words = omega arith })

  -- the single-clock call is a run of 1, and the run is plain clocks with document 01's count
  pub single_run : (w : WorldOf S) → step_of M w ≡ plain_run_of M 1 w
  single_run w = lists.single_run M callable w

  pub runs_plainly : (n : ℕ) (w : WorldOf S) → Room w → run_of M n w ≡ plain_run_of M n w
  runs_plainly n w room = lists.runs_plainly M callable n w room

  -- "the gap (clocks before the next event clock, at most those left)", of the clocks that plain clocks do
  pub gap_leading : (n : ℕ) (w : WorldOf S) → Fit C w → running_in w ≡ true
      → C.gap n w.state w.input_clocks ≡ leading_quiet (trace (system_of C) n w)
  gap_leading n w f on = gap_leads (system_of C) (lawful C L) (Fit C) (plain_fits C L) (no_gap_event C L) n w f on

  -- ---- a run cut in two: document 01, "Joints, edges and proved examples"

  fits_on : (n : ℕ) (w : WorldOf S) → Fit C w → Fit C (plains (system_of C) n w)
  fits_on n w f = lists.fits_on M callable n w f

  -- a run of a + b that fits the clock, cut into a and then b over the rest of the lists, ends the same in all but the
  -- leap count
  pub cut : (a b : ℕ) (w : WorldOf S) → Fit C w → w.stop ≡ 0 → C.clock w.state + (a + b) ≤ last_clock
      → (calls M (run_for a ∷ run_for b ∷ []) w).world ≡ (calls M (run_for (a + b) ∷ []) w).world
  cut a b w f on h =
      lists.cut M callable a b w f (eq-eqb w.stop 0 on) (accepted_call a w f (omega arith))
      (accepted_call b (plains (system_of C) a w) (fits_on a w f) (omega (arith, clock_most C L a w)))
      (accepted_call (a + b) w f h)

  -- n plain clocks that do not stop are n clocks
  clock_all : (n : ℕ) (w : WorldOf S) → eqb (plains (system_of C) n w).stop 0 ≡ true
      → C.clock (plains (system_of C) n w).state ≡ C.clock w.state + n
  unfolding plains
  clock_all zero w e = sym (add-zero (C.clock w.state))
  clock_all (suc n) w e = by_done (done_in C w) refl (clock_all n (plain_of C w) e)
    where
      by_done : (d : Bool) → done_in C w ≡ d
          → C.clock (plains (system_of C) n (plain_of C w)).state ≡ C.clock (plain_of C w).state + n
          → C.clock (plains (system_of C) n (plain_of C w)).state ≡ C.clock w.state + suc n
      by_done true d later = omega (arith, later, (lawful C L).done_clock w d)
      by_done false d later =
          let stopped : eqb (plain_of C w).stop 0 ≡ false = (lawful C L).undone_stops w d in
          absurd (false≢true (sym stopped
          ∙ ap (λ (v : WorldOf S). eqb v.stop 0)
          (sym (plains_stopped (system_of C) (lawful C L) n (plain_of C w) stopped)) ∙ e))

  -- P7, "cut after a clocks from clock 0, an input on clock a is the first half's": none of clock a or before is left
  -- to the second
  pub first_half : (a : ℕ) (w : WorldOf S) → Fit C w → C.clock w.state ≡ 0 → a ≤ last_clock
      → (calls M (run_for a ∷ []) w).world.stop ≡ 0
      → (k : ℕ) → k < length (calls M (run_for a ∷ []) w).world.input_clocks
      → a < get_or (calls M (run_for a ∷ []) w).world.input_clocks k 0
  first_half a w f start h on k within =
      let v = plains (system_of C) a w in
      let same : (calls M (run_for a ∷ []) w).world ≡ v =
      lists.run_plains M callable a w (fit_room w f) (accepted_call a w f (omega arith)) in
      let unstopped : v.stop ≡ 0 = sym (ap (λ (x : WorldOf S). x.stop) same) ∙ on in
      let clock = clock_all a w (eq-eqb v.stop 0 unstopped) in
      let inside : k < length v.input_clocks = rw same at within in
      let above = right_above C.limits.pin (C.clock v.state) v.input_clocks v.input_codes
      (fits_on a w f).pins k inside in
      rw same (omega (arith, above, clock))
