-- Demand 3, one theorem over the list of calls, of every machine that keeps the laws below: state, memory, outputs,
-- stop and counts are those of n plain clocks, and each call's result is what they say, document 01's leap count among
-- it.
use mathlib.Core.Path.{◌≡◌, refl, sym, ap, ◌∙◌}
use mathlib.Core.Bool.{Bool, true, false, cond}
use mathlib.Core.List.{List, [], ◌∷◌}
use Prim.Native.Nat.{ℕ, ◌+◌, ◌<◌}
use native.Mathlib.Nat.{add-zero}
use Rattle.leaps.specs.Leaps.{plains, run, leap_count}
use Rattle.leaps.specs.CallLists.{Machine, Call, single_clock, run_for, count_of, Listed, listed, step_of, handed_run}
use Rattle.leaps.specs.CallLists.{run_of, plain_run_of, call_of, calls, clocks_accepted, results_by, FairOf}
use Rattle.leaps.proofs.Laws.{Lawful, plains_add, plains_stopped, plains_kept, run_plain, run_count, count_one}

-- what is asked of a machine
pub record Callable {W H R : Type 0} (M : Machine W H R) : Type 1 where
  pub lawful : Lawful M.system
  -- a world in which a call is not refused but for its count
  pub Fit : W → Type 0
  pub fit_room : (w : W) → Fit w → M.Room w
  pub fit_kept : (w : W) → Fit w → Fit (M.system.plain w)
  pub accepts_fit : (n : ℕ) (w : W) → M.Room w → M.accepts n w ≡ true → Fit w
  -- in such a world, with a clock left and no gap, the next clock is an event clock
  pub gap_event : (n : ℕ) (w : W) → Fit w → 0 < n → M.system.gap n w ≡ 0 → M.system.event w ≡ true
  -- what is lent is refused just where the whole is
  pub lent_room : (w : W) → M.Room (M.lent w)
  pub lent_accepts : (n : ℕ) (w : W) → M.Room w → M.accepts n (M.lent w) ≡ M.accepts n w
  -- plain clocks on what is lent are plain clocks on the whole, which `after_call_of` puts together again
  pub lent_count : (n : ℕ) (w : W) → M.Room w → M.system.running w ≡ true
      → leap_count M.system n (M.lent w) ≡ leap_count M.system n w
  pub done_world : (n leaps : ℕ) (w : W) → M.Room w → M.system.running w ≡ true
      → M.after_call w (M.handed_back leaps (plains M.system n (M.lent w))) ≡ plains M.system n w
  pub done_result : (n leaps : ℕ) (w : W) → M.Room w → M.system.running w ≡ true
      → M.result_in (M.handed_back leaps (plains M.system n (M.lent w)))
      ≡ M.result_by leaps w (plains M.system n w)
  -- "A refused call hands on what it got"
  pub refused_world : (n : ℕ) (w : W) → M.Room w → M.system.running w ≡ true
      → M.after_call w (M.refused n (M.lent w)) ≡ w
  pub refused_result : (n : ℕ) (w : W) → M.Room w → M.result_in (M.refused n (M.lent w)) ≡ M.refused_by n w

module _ {W H R : Type 0} (M : Machine W H R) (L : Callable M) where
  -- ---- one call

  -- the single-clock call is a run of 1
  pub single_run : (w : W) → step_of M w ≡ plain_run_of M 1 w
  unfolding step_of plain_run_of plains
  single_run w = rw (count_one M.system L.lawful w)

  -- the run by leaps is the run by plain clocks, with document 01's count
  pub runs_plainly : (n : ℕ) (w : W) → M.Room w → run_of M n w ≡ plain_run_of M n w
  unfolding run_of plain_run_of
  runs_plainly n w room = by_test (M.accepts n w) refl
    where
      by_test : (t : Bool) → M.accepts n w ≡ t
          → cond t (handed_run M (run M.system n w)) (M.refused n w)
          ≡ cond t (M.handed_back (leap_count M.system n w) (plains M.system n w)) (M.refused n w)
      by_test true e =
          let f = L.accepts_fit n w room e in
          rw (
            run_plain M.system L.lawful n w,
            run_count M.system L.lawful L.Fit L.fit_kept L.gap_event n w f,
          )
      by_test false e = refl

  -- either call, by plain clocks
  call_plain : (c : Call) (w : W) → M.Room w → call_of M c w ≡ plain_run_of M (count_of c) w
  unfolding call_of count_of
  call_plain single_clock w room = single_run w
  call_plain (run_for n) w room = runs_plainly n w room

  pub fits_on : (n : ℕ) (w : W) → L.Fit w → L.Fit (plains M.system n w)
  fits_on n w f = plains_kept M.system L.lawful L.Fit L.fit_kept L.gap_event n w f

  module _ (c : Call) (w : W) (room : M.Room w) where
    abbrev n : ℕ
    n = count_of c

    call_done : M.accepts n w ≡ true
        → call_of M c (M.lent w)
        ≡ M.handed_back (leap_count M.system n (M.lent w)) (plains M.system n (M.lent w))
    unfolding plain_run_of
    call_done e = call_plain c (M.lent w) (L.lent_room w) ∙ rw (L.lent_accepts n w room, e)

    call_refused : M.accepts n w ≡ false → call_of M c (M.lent w) ≡ M.refused n (M.lent w)
    unfolding plain_run_of
    call_refused e = call_plain c (M.lent w) (L.lent_room w) ∙ rw (L.lent_accepts n w room, e)

  -- ---- the list

  module _ (c : Call) (cs : List Call) (w : W) where
    -- a stop has ended the list
    fair_ended : M.system.running w ≡ false → FairOf M (c ∷ cs) w
    unfolding calls clocks_accepted results_by plains
    fair_ended e = rw (e, calls, clocks_accepted, results_by)

    calls_on : M.system.running w ≡ true
        → calls M (c ∷ cs) w
        ≡ listed (M.result_in (call_of M c (M.lent w))) (calls M cs (M.after_call w (call_of M c (M.lent w))))
    unfolding calls
    calls_on e = rw (e, calls)

    pub accepted_done : M.system.running w ≡ true → M.accepts (count_of c) w ≡ true
        → clocks_accepted M (c ∷ cs) w ≡ count_of c + clocks_accepted M cs (plains M.system (count_of c) w)
    unfolding clocks_accepted
    accepted_done e d = rw (e, clocks_accepted) (rw d)

    accepted_refused : M.system.running w ≡ true → M.accepts (count_of c) w ≡ false
        → clocks_accepted M (c ∷ cs) w ≡ clocks_accepted M cs w
    unfolding clocks_accepted
    accepted_refused e d = rw (e, clocks_accepted) (rw d)

    results_done : M.system.running w ≡ true → M.accepts (count_of c) w ≡ true
        → results_by M (c ∷ cs) w
        ≡ M.result_by (leap_count M.system (count_of c) w) w (plains M.system (count_of c) w)
        ∷ results_by M cs (plains M.system (count_of c) w)
    unfolding results_by
    results_done e d = rw (e, results_by) (rw d)

    results_refused : M.system.running w ≡ true → M.accepts (count_of c) w ≡ false
        → results_by M (c ∷ cs) w ≡ M.refused_by (count_of c) w ∷ results_by M cs w
    unfolding results_by
    results_refused e d = rw (e, results_by) (rw d)

    module _ (room : M.Room w) (on : M.system.running w ≡ true) (later : (v : W) → M.Room v → FairOf M cs v) where
      fair_done : M.accepts (count_of c) w ≡ true → FairOf M (c ∷ cs) w
      fair_done d =
          let n = count_of c in
          let v = plains M.system n w in
          rw (
            calls_on on,
            call_done c w room d,
            L.done_world n (leap_count M.system n (M.lent w)) w room on,
            L.done_result n (leap_count M.system n (M.lent w)) w room on,
            L.lent_count n w room on,
            later v (L.fit_room v (fits_on n w (L.accepts_fit n w room d))),
            accepted_done on d,
            results_done on d,
            plains_add M.system L.lawful n (clocks_accepted M cs v) w,
          )

      fair_refused : M.accepts (count_of c) w ≡ false → FairOf M (c ∷ cs) w
      fair_refused d =
          rw (
            calls_on on,
            call_refused c w room d,
            L.refused_world (count_of c) w room on,
            L.refused_result (count_of c) w room,
            later w room,
            accepted_refused on d,
            results_refused on d,
          )

  -- DEMAND 3. "Leaping equals stepping, for every well-formed start and every list of calls (single clocks and runs of
  -- any count, refused ones included)" (`calls`): "state, memory, outputs, stop and counts are those of n plain clocks"
  -- (`plains`, n being `clocks_accepted`, the counts of the calls not refused), "and the leap count is document 01's"
  -- (`results_by`: of each call, with its number). It holds of damaged starts too, whose calls are refused.
  pub fair : (cs : List Call) (w : W) → M.Room w → FairOf M cs w
  unfolding calls clocks_accepted results_by plains
  fair [] w room = refl
  fair (c ∷ cs) w room = by_tests (M.system.running w) refl (M.accepts (count_of c) w) refl (fair cs)
    where
      by_tests : (a : Bool) → M.system.running w ≡ a → (b : Bool) → M.accepts (count_of c) w ≡ b
          → ((v : W) → M.Room v → FairOf M cs v) → FairOf M (c ∷ cs) w
      by_tests false e b d later = fair_ended c cs w e
      by_tests true e true d later = fair_done c cs w room e later d
      by_tests true e false d later = fair_refused c cs w room e later d

  -- the same of a start: what a call is lent needs no premise
  pub fair_lent : (cs : List Call) (w : W) → FairOf M cs (M.lent w)
  fair_lent cs w = fair cs (M.lent w) (L.lent_room w)

  -- one run, as plain clocks
  pub run_plains : (n : ℕ) (w : W) → M.Room w → M.accepts n w ≡ true
      → (calls M (run_for n ∷ []) w).world ≡ plains M.system n w
  unfolding clocks_accepted count_of
  run_plains n w room d =
      ap (λ (l : Listed W R). l.world) (fair (run_for n ∷ []) w room) ∙ by_stop (M.system.running w) refl
    where
      by_stop : (r : Bool) → M.system.running w ≡ r
          → plains M.system (clocks_accepted M (run_for n ∷ []) w) w ≡ plains M.system n w
      by_stop true e = ap (λ (k : ℕ). plains M.system k w) (accepted_done (run_for n) [] w e d ∙ add-zero n)
      by_stop false e =
          plains_stopped M.system L.lawful _ w e ∙ sym (plains_stopped M.system L.lawful n w e)

  -- a run cut in two over the rest of the lists ends the same in all but the leap count, where none of the three is
  -- refused
  pub cut : (a b : ℕ) (w : W) → L.Fit w → M.system.running w ≡ true → M.accepts a w ≡ true
      → M.accepts b (plains M.system a w) ≡ true
      → M.accepts (a + b) w ≡ true
      → (calls M (run_for a ∷ run_for b ∷ []) w).world ≡ (calls M (run_for (a + b) ∷ []) w).world
  unfolding clocks_accepted count_of
  cut a b w f on first second whole =
      let v = plains M.system a w in
      let room = L.fit_room w f in
      let room' = L.fit_room v (fits_on a w f) in
      ap (λ (l : Listed W R). l.world) (fair (run_for a ∷ run_for b ∷ []) w room)
      ∙ ap (λ (k : ℕ). plains M.system k w) (accepted_done (run_for a) (run_for b ∷ []) w on first)
      ∙ plains_add M.system L.lawful a (clocks_accepted M (run_for b ∷ []) v) w
      ∙ sym (ap (λ (l : Listed W R). l.world) (fair (run_for b ∷ []) v room'))
      ∙ run_plains b v room' second
      ∙ sym (plains_add M.system L.lawful a b w)
      ∙ sym (run_plains (a + b) w room whole)
