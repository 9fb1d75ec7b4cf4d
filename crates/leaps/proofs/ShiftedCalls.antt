-- The theorem of the shifted clock, of calls and of lists of calls.
use mathlib.Core.Path.{◌≡◌, refl, sym, ap, ◌∙◌}
use mathlib.Core.Bool.{Bool, true, false, ◌||◌, not, cond, false≢true}
use mathlib.Core.List.{List, [], ◌∷◌, map}
use Prim.Native.Nat.{ℕ, ◌+◌, ◌≤◌}
use native.Mathlib.Omega.{arith}
use lib.Dec.{ltb, eqb}
use lib.ListN.{length, length-map}
use borrow.Author.Tests.{ltb-true, lt-ltb, le-ltb, eqb-true, eqb-false, eq-eqb, not-true}
use Rattle.bits.proofs.Cond.{and_left, and_right}
use Rattle.pin_lists.specs.PinLists.{pins_right}
use Rattle.refusals.specs.declared.Limits.{Limits}
use Rattle.refusals.specs.Refusals.{last_clock, first_of, refusal_of}
use Rattle.leaps.specs.Chip.{ChipRules}
use Rattle.leaps.specs.Leaps.{plains, run, leap_count}
use Rattle.leaps.specs.World.{WorldOf, plain_of, running_in, system_of}
use Rattle.leaps.specs.CallLists.{Machine, Call, count_of, Listed, step_of, run_of, plain_run_of, calls}
use Rattle.leaps.specs.CallLists.{clocks_accepted}
use Rattle.leaps.specs.CallLists.{results_by}
use Rattle.leaps.specs.Calls.{ResultOf, HandedOf, call_start, handed_back_of, refused_with, refused_handed, result_by_of}
use Rattle.leaps.specs.Calls.{refusal_in, refused_call, machine_of, Room}
use Rattle.leaps.specs.Shifted.{shifted_clocks, shifted_result, ShiftedWorld, ShiftedHanded, ShiftedListed}
use Rattle.leaps.specs.Shifted.{clock_refusal, RefusedAlike, clocks_fit}
use Rattle.leaps.proofs.Chips.{ChipLaws}
use Rattle.leaps.proofs.Calls as theory
use Rattle.leaps.proofs.Shifted.{ShiftLaws, pins_shifted, shifted_clock, running_shifted, plain_shifted}
use Rattle.leaps.proofs.Shifted.{plains_shifted, moved_shifted, count_shifted, run_shifted}

-- ---- refusals

-- the table's rows, of which only the fourth differs, and is so at the later clock where it is at the earlier
refusals_alike : (one two three late early five : Bool) → (early ≡ true → late ≡ true)
    → (first_of ((1, one) ∷ (2, two) ∷ (3, three) ∷ (4, late) ∷ (5, five) ∷ []) ≡ clock_refusal
    → first_of ((1, one) ∷ (2, two) ∷ (3, three) ∷ (4, early) ∷ (5, five) ∷ []) ≡ clock_refusal)
    → first_of ((1, one) ∷ (2, two) ∷ (3, three) ∷ (4, late) ∷ (5, five) ∷ [])
    ≡ first_of ((1, one) ∷ (2, two) ∷ (3, three) ∷ (4, early) ∷ (5, five) ∷ [])
refusals_alike true two three late early five up alike = refl
refusals_alike false true three late early five up alike = refl
refusals_alike false false true late early five up alike = refl
refusals_alike false false false true true five up alike = refl
refusals_alike false false false true false five up alike = sym (alike refl)
refusals_alike false false false false true five up alike = absurd (false≢true (up refl))
refusals_alike false false false false false five up alike = refl

-- the table of a call, of which memory and lists are those of the earlier, but for the clocks
module _ (limits : Limits) (formed : Bool) (clock bytes : ℕ) (clocks codes : List ℕ) (times words n k : ℕ) where
  abbrev refusal_by : Bool → ℕ
  refusal_by late =
      first_of ((1, not (eqb bytes limits.memory)) ∷ (2, not formed)
      ∷ (3, not (eqb (length clocks) (length codes)) || not (eqb times words)) ∷ (4, late)
      ∷ (5, not (pins_right limits.pin clock clocks codes)) ∷ [])

  refusals_shifted : refusal_of limits formed (clock + k) bytes (shifted_clocks k clocks) codes times words n
      ≡ refusal_by (ltb last_clock (clock + k + n))
  unfolding refusal_of
  refusals_shifted = rw (length-map clocks (λ (t : ℕ). t + k), pins_shifted limits.pin k clock clocks codes)

  refusal_alike : (refusal_of limits formed (clock + k) bytes (shifted_clocks k clocks) codes times words n ≡ clock_refusal
      → refusal_of limits formed clock bytes clocks codes times words n ≡ clock_refusal)
      → refusal_of limits formed (clock + k) bytes (shifted_clocks k clocks) codes times words n
      ≡ refusal_of limits formed clock bytes clocks codes times words n
  unfolding refusal_of
  refusal_alike alike =
      refusals_shifted
      ∙ refusals_alike (not (eqb bytes limits.memory)) (not formed)
      (not (eqb (length clocks) (length codes)) || not (eqb times words))
      (ltb last_clock (clock + k + n)) (ltb last_clock (clock + n)) (not (pins_right limits.pin clock clocks codes))
      (λ h. lt-ltb last_clock (clock + k + n) (omega (arith, ltb-true last_clock (clock + n) h)))
      (λ e. alike (refusals_shifted ∙ e))

-- clocks that fit are not refused with 4
fit_number : (limits : Limits) (formed : Bool) (clock bytes : ℕ) (clocks codes : List ℕ) (times words n : ℕ)
    → clock + n ≤ last_clock
    → refusal_of limits formed clock bytes clocks codes times words n ≡ clock_refusal → ⊥
unfolding refusal_of
fit_number limits formed clock bytes clocks codes times words n h e =
    other (not (eqb bytes limits.memory)) (not formed)
    (not (eqb (length clocks) (length codes)) || not (eqb times words))
    (not (pins_right limits.pin clock clocks codes)) (rw (le-ltb last_clock (clock + n) h) at e)
  where
    other : (one two three five : Bool)
        → first_of ((1, one) ∷ (2, two) ∷ (3, three) ∷ (4, false) ∷ (5, five) ∷ []) ≡ clock_refusal → ⊥
    other true two three five e = omega arith
    other false true three five e = omega arith
    other false false true five e = omega arith
    other false false false true e = omega arith
    other false false false false e = omega arith

module _ {S : Type 0} (C : ChipRules S) (shift : ℕ → S → S) (L : ShiftLaws C shift) (k : ℕ) where
  abbrev Alike : WorldOf S → WorldOf S → Type 0
  Alike = ShiftedWorld shift k

  abbrev M : Machine (WorldOf S) (HandedOf S) (ResultOf S)
  M = machine_of C

  -- 4 is the only refusal that can differ: all others are alike
  pub refusal_shifted : (n : ℕ) (w v : WorldOf S) → Alike w v → RefusedAlike C n w v → refusal_in C n v ≡ refusal_in C n w
  refusal_shifted n w v r alike =
      by_parts (C.well_formed v.state) (C.clock v.state) (length v.memory) v.input_clocks v.input_codes
      (length v.output_clocks) (length v.output_words) (ap C.well_formed r.state ∙ L.formed k w.state)
      (shifted_clock C shift L k w v r)
      (ap length r.memory) r.input_clocks r.input_codes r.records.clock_space r.records.word_space alike
    where
      by_parts : (formed : Bool) (clock bytes : ℕ) (clocks codes : List ℕ) (times words : ℕ)
          → formed ≡ C.well_formed w.state → clock ≡ C.clock w.state + k → bytes ≡ length w.memory
          → clocks ≡ shifted_clocks k w.input_clocks → codes ≡ w.input_codes
          → times ≡ length w.output_clocks → words ≡ length w.output_words
          → (refusal_of C.limits formed clock bytes clocks codes times words n ≡ clock_refusal
          → refusal_in C n w ≡ clock_refusal)
          → refusal_of C.limits formed clock bytes clocks codes times words n ≡ refusal_in C n w
      by_parts formed clock bytes clocks codes times words a b c d e f g =
          rw (a, b, c, d, e, f, g)
          (refusal_alike C.limits (C.well_formed w.state) (C.clock w.state) (length w.memory)
          w.input_clocks w.input_codes (length w.output_clocks) (length w.output_words) n k)

  -- clocks that fit at the later clock are refused with 4 in neither
  pub fit_alike : (n : ℕ) (w v : WorldOf S) → C.clock v.state + n ≤ last_clock → RefusedAlike C n w v
  fit_alike n w v h e =
      absurd
      (fit_number C.limits (C.well_formed v.state) (C.clock v.state) (length v.memory)
      v.input_clocks v.input_codes (length v.output_clocks) (length v.output_words) n h e)

  -- ---- one call

  handed_shifted : (w v : WorldOf S) (leaps leaps' : ℕ) → Alike w v → leaps' ≡ leaps
      → ShiftedHanded shift k (handed_back_of leaps w) (handed_back_of leaps' v)
  handed_shifted w v leaps leaps' r e = record {
    result = rw (r.stop, r.state, e, r.read, r.written);
    memory = r.memory;
    records = r.records;
  }

  refused_shifted : (w v : WorldOf S) (number number' : ℕ) → Alike w v → number' ≡ number
      → ShiftedHanded shift k (refused_handed number w) (refused_handed number' v)
  refused_shifted w v number number' r e = record {
    result = rw (r.state, e);
    memory = r.memory;
    records = record {
      clock_space = r.records.clock_space;
      word_space = r.records.word_space;
      record_clocks = refl;
      record_words = refl;
    };
  }

  -- a call, by its refusal
  call_shifted : (n : ℕ) (w v : WorldOf S) (h g : HandedOf S) → Alike w v → RefusedAlike C n w v
      → ShiftedHanded shift k h g
      → ShiftedHanded shift k (cond (eqb (refusal_in C n w) 0) h (refused_call C n w))
      (cond (eqb (refusal_in C n v) 0) g (refused_call C n v))
  call_shifted n w v h g r alike done =
      by_number (refusal_in C n w) (refusal_in C n v) (refusal_shifted n w v r alike) (eqb (refusal_in C n w) 0) refl
    where
      by_number : (a b : ℕ) → b ≡ a → (t : Bool) → eqb a 0 ≡ t
          → ShiftedHanded shift k (cond (eqb a 0) h (refused_handed a w)) (cond (eqb b 0) g (refused_handed b v))
      by_number a b e true t = rw (e, t) done
      by_number a b e false t = rw (e, t) (refused_shifted w v a a r refl)

  pub step_shifted : (w v : WorldOf S) → Alike w v → RefusedAlike C 1 w v
      → ShiftedHanded shift k (step_of M w) (step_of M v)
  unfolding step_of
  step_shifted w v r alike =
      let p = plain_shifted C shift L k w v r in
      call_shifted 1 w v _ _ r alike
      (handed_shifted (plain_of C w) (plain_of C v) _ _ p (moved_shifted C shift L k w v (plain_of C w) (plain_of C v) r p))

  pub run_call_shifted : (n : ℕ) (w v : WorldOf S) → Alike w v → RefusedAlike C n w v
      → ShiftedHanded shift k (run_of M n w) (run_of M n v)
  unfolding run_of
  run_call_shifted n w v r alike =
      let p = run_shifted C shift L k n w v r in
      call_shifted n w v _ _ r alike
      (handed_shifted (run (system_of C) n w).world (run (system_of C) n v).world _ _ p.world p.leaps)

  -- a start: any state and lists, and the same k clocks later, with output lists of the same lengths
  pub start_shifted : (s : S) (memory input_clocks input_codes times words times' words' : List ℕ)
      → length times' ≡ length times → length words' ≡ length words
      → Alike (call_start s memory input_clocks input_codes times words)
      (call_start (shift k s) memory (shifted_clocks k input_clocks) input_codes times' words')
  start_shifted s memory input_clocks input_codes times words times' words' a b = record {
    state = refl;
    memory = refl;
    input_clocks = refl;
    input_codes = refl;
    records = record { clock_space = a; word_space = b; record_clocks = refl; record_words = refl };
    read = refl;
    written = refl;
    stop = refl;
  }

  -- ---- lists of calls, by plain clocks

  fit_behind : (r : ResultOf S) (rs : List (ResultOf S)) → clocks_fit (r ∷ rs) ≡ true → clocks_fit rs ≡ true
  unfolding clocks_fit
  fit_behind r rs fit = and_right (not (eqb r.number clock_refusal)) (clocks_fit rs) fit

  -- what the first call of a list comes to, by whether nothing has stopped and whether it is not refused
  module _ (c : Call) (cs : List Call) (x : WorldOf S) where
    abbrev accepted_from : Bool → Bool → ℕ
    accepted_from true true = count_of c + clocks_accepted M cs (plains (system_of C) (count_of c) x)
    accepted_from true false = clocks_accepted M cs x
    accepted_from false accepted = 0

    abbrev results_from : Bool → Bool → List (ResultOf S)
    results_from true true =
        let y = plains (system_of C) (count_of c) x in
        result_by_of (leap_count (system_of C) (count_of c) x) x y ∷ results_by M cs y
    results_from true false = refused_with (refusal_in C (count_of c) x) x.state ∷ results_by M cs x
    results_from false accepted = []

    accepted_from_lem : (on accepted : Bool) → running_in x ≡ on → eqb (refusal_in C (count_of c) x) 0 ≡ accepted
        → clocks_accepted M (c ∷ cs) x ≡ accepted_from on accepted
    unfolding clocks_accepted
    accepted_from_lem true true e d = rw (e, clocks_accepted) (rw d)
    accepted_from_lem true false e d = rw (e, clocks_accepted) (rw d)
    accepted_from_lem false accepted e d = rw (e, clocks_accepted)

    results_from_lem : (on accepted : Bool) → running_in x ≡ on → eqb (refusal_in C (count_of c) x) 0 ≡ accepted
        → results_by M (c ∷ cs) x ≡ results_from on accepted
    unfolding results_by
    results_from_lem true true e d = rw (e, results_by) (rw d)
    results_from_lem true false e d = rw (e, results_by) (rw d)
    results_from_lem false accepted e d = rw (e, results_by)

    -- a call that is made, and not refused with 4
    number_not_four : (accepted : Bool) → eqb (refusal_in C (count_of c) x) 0 ≡ accepted
        → clocks_fit (results_from true accepted) ≡ true
        → refusal_in C (count_of c) x ≡ clock_refusal → ⊥
    unfolding clocks_fit
    number_not_four true d fit four = let none = eqb-true (refusal_in C (count_of c) x) 0 d in omega arith
    number_not_four false d fit four =
        eqb-false (refusal_in C (count_of c) x) clock_refusal
        (not-true _
        (and_left (not (eqb (refusal_in C (count_of c) x) clock_refusal)) (clocks_fit (results_by M cs x)) fit)) four

  result_shifted : (w v x y : WorldOf S) (leaps leaps' : ℕ) → Alike w v → Alike x y → leaps' ≡ leaps
      → result_by_of leaps' v y ≡ shifted_result shift k (result_by_of leaps w x)
  result_shifted w v x y leaps leaps' r s e = rw (s.stop, s.state, e, s.read, s.written, r.read, r.written)

  refused_alike : (s t : S) (number number' : ℕ) → t ≡ shift k s → number' ≡ number
      → refused_with number' t ≡ shifted_result shift k (refused_with number s)
  refused_alike s t number number' a b = rw (a, b)

  results_both : (a b : ResultOf S) (l m : List (ResultOf S)) → a ≡ b → l ≡ m → a ∷ l ≡ b ∷ m
  results_both a b l m e f = rw (e, f)

  -- the clocks of the calls that are not refused, and the result of each call
  record Plainly (cs : List Call) (w v : WorldOf S) : Type 0 where
    count : clocks_accepted M cs v ≡ clocks_accepted M cs w
    results : results_by M cs v ≡ map (shifted_result shift k) (results_by M cs w)

  abbrev Plain : List Call → Type 0
  Plain cs = (w v : WorldOf S) → Alike w v → clocks_fit (results_by M cs v) ≡ true → Plainly cs w v

  module _ (c : Call) (cs : List Call) (w v : WorldOf S) (r : Alike w v) where
    plain_by : (on accepted : Bool) → running_in v ≡ on → eqb (refusal_in C (count_of c) v) 0 ≡ accepted
        → clocks_fit (results_from c cs v on accepted) ≡ true → Plain cs → Plainly (c ∷ cs) w v
    plain_by false accepted e d fit later =
        let on = sym (running_shifted C shift L k w v r) ∙ e in
        record {
          count = accepted_from_lem c cs v false _ e refl ∙ sym (accepted_from_lem c cs w false _ on refl);
          results =
              results_from_lem c cs v false _ e refl
              ∙ ap (map (shifted_result shift k)) (sym (results_from_lem c cs w false _ on refl));
        }
    plain_by true true e d fit later =
        let n = count_of c in
        let on = sym (running_shifted C shift L k w v r) ∙ e in
        let same = refusal_shifted n w v r (λ four. absurd (number_not_four c cs v true d fit four)) in
        let accepted = ap (λ (number : ℕ). eqb number 0) (sym same) ∙ d in
        let p = plains_shifted C shift L k n w v r in
        let x = plains (system_of C) n w in
        let y = plains (system_of C) n v in
        let rest = later x y p (fit_behind _ (results_by M cs y) fit) in
        record {
          count =
              accepted_from_lem c cs v true true e d ∙ ap (λ (m : ℕ). n + m) rest.count
              ∙ sym (accepted_from_lem c cs w true true on accepted);
          results =
              results_from_lem c cs v true true e d
              ∙ results_both _ _ _ _ (result_shifted w v x y _ _ r p (count_shifted C shift L k n w v r))
              rest.results
              ∙ ap (map (shifted_result shift k)) (sym (results_from_lem c cs w true true on accepted));
        }
    plain_by true false e d fit later =
        let n = count_of c in
        let on = sym (running_shifted C shift L k w v r) ∙ e in
        let same = refusal_shifted n w v r (λ four. absurd (number_not_four c cs v false d fit four)) in
        let refused = ap (λ (number : ℕ). eqb number 0) (sym same) ∙ d in
        let rest = later w v r (fit_behind _ (results_by M cs v) fit) in
        record {
          count = accepted_from_lem c cs v true false e d ∙ rest.count ∙ sym (accepted_from_lem c cs w true false on refused);
          results =
              results_from_lem c cs v true false e d
              ∙ results_both _ _ _ _ (refused_alike w.state v.state _ _ r.state same) rest.results
              ∙ ap (map (shifted_result shift k)) (sym (results_from_lem c cs w true false on refused));
        }

  list_plain : (cs : List Call) → Plain cs
  unfolding clocks_accepted results_by
  list_plain [] w v r fit = record { count = refl; results = refl }
  list_plain (c ∷ cs) w v r fit =
      plain_by c cs w v r (running_in v) (eqb (refusal_in C (count_of c) v) 0) refl refl
      (sym (ap clocks_fit (results_from_lem c cs v (running_in v) (eqb (refusal_in C (count_of c) v) 0) refl refl)) ∙ fit)
      (list_plain cs)

  -- ---- lists of calls

  room_shifted : (w v : WorldOf S) → Alike w v → Room w → Room v
  room_shifted w v r room = record {
    output_clocks = omega (arith, r.written, r.records.clock_space, room.output_clocks);
    output_words = omega (arith, r.written, r.records.word_space, room.output_words);
  }

  module _ (laws : ChipLaws C) (w v : WorldOf S) (r : Alike w v) (room : Room w) where
    -- A list of calls of which none at the later clock is refused with 4: the worlds that they leave are alike but for
    -- the clock, and so is the result of each.
    pub list_shifted : (cs : List Call) → clocks_fit (calls M cs v).results ≡ true
        → ShiftedListed shift k (calls M cs w) (calls M cs v)
    list_shifted cs fit =
        let before = theory.fair C laws cs w room in
        let after = theory.fair C laws cs v (room_shifted w v r room) in
        let fitting = sym (ap (λ (l : Listed (WorldOf S) (ResultOf S)). clocks_fit l.results) after) ∙ fit in
        let plainly = list_plain cs w v r fitting in
        rw (before, after)
        (record {
          world = rw plainly.count (plains_shifted C shift L k (clocks_accepted M cs w) w v r);
          results = plainly.results;
        })

    -- A run at the earlier clock that is not refused hands back what n plain clocks at the later one leave, and
    -- document 01's leaps, though no call might do them: the later clock may be past the last.
    pub run_past_shifted : (n : ℕ) → refusal_in C n w ≡ 0
        → ShiftedHanded shift k (run_of M n w) (handed_back_of (leap_count (system_of C) n v) (plains (system_of C) n v))
    unfolding plain_run_of
    run_past_shifted n accepted =
        rw (theory.runs_plainly C laws n w room, eq-eqb (refusal_in C n w) 0 accepted)
        (handed_shifted (plains (system_of C) n w) (plains (system_of C) n v) _ _ (plains_shifted C shift L k n w v r)
        (count_shifted C shift L k n w v r))
