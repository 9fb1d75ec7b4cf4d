-- The theorem of the shifted clock, of every chip whose rules do not look at the clock's value: from worlds that are
-- alike but for their clocks, plain clocks, leaps and calls lead to such worlds, in as many leaps.
use mathlib.Core.Path.{◌≡◌, refl, sym, ap, ◌∙◌}
use mathlib.Core.Bool.{Bool, true, false, ◌&&◌, cond}
use mathlib.Core.List.{List, [], ◌∷◌, ◌++◌, map}
use Prim.Native.Nat.{ℕ, zero, suc, ◌+◌, ◌-◌}
use native.Mathlib.Numerals.{add-one}
use native.Mathlib.Nat.{add-zero}
use native.Mathlib.Omega.{arith}
use lib.Dec.{ltb, eqb}
use lib.ListN.{length, take, drop, set, length-set}
use borrow.Author.Tests.{ltb-true, ltb-false, eqb-true, eqb-false, lt-ltb, le-ltb, eq-eqb, ne_eqb}
use Rattle.bits.specs.Bits.{one_where}
use Rattle.pin_lists.specs.PinLists.{pin_of, entry_right, rest_right, pins_right, input_count}
use Rattle.leaps.specs.Chip.{ChipRules, ClockOutcome, stopped, ended}
use Rattle.leaps.specs.Leaps.{Run, plains, leap_of, moved_of, left_after, leaps_of, run, trace, leap_count}
use Rattle.leaps.specs.World.{WorldOf, put_record, after, input_count_in, outcome_in, plain_of, running_in, is_done}
use Rattle.leaps.specs.World.{done_in}
use Rattle.leaps.specs.World.{event_in, pass_in, system_of}
use Rattle.leaps.specs.Shifted.{shifted_clocks, ShiftedRecords, shifted_outcome, ShiftedWorld}

-- what is asked of a chip: `shift k s` is `s` with its clock k later, and no rule looks at the clock's value
pub record ShiftLaws {S : Type 0} (C : ChipRules S) (shift : ℕ → S → S) : Type 0 where
  pub clock : (k : ℕ) (s : S) → C.clock (shift k s) ≡ C.clock s + k
  pub formed : (k : ℕ) (s : S) → C.well_formed (shift k s) ≡ C.well_formed s
  pub outcome : (k : ℕ) (s : S) (codes memory : List ℕ) (free : Bool)
      → C.outcome (shift k s) codes memory free ≡ shifted_outcome shift k (C.outcome s codes memory free)
  pub event : (k : ℕ) (s : S) (codes : List ℕ) → C.event (shift k s) codes ≡ C.event s codes
  pub gap : (k n : ℕ) (s : S) (clocks : List ℕ) → C.gap n (shift k s) (shifted_clocks k clocks) ≡ C.gap n s clocks
  pub pass : (k g : ℕ) (s : S) → C.pass g (shift k s) ≡ shift k (C.pass g s)

-- ---- numbers and lists

-- tests between two clocks
pub shifted_ltb : (k a b : ℕ) → ltb (a + k) (b + k) ≡ ltb a b
shifted_ltb k a b = by_test (ltb a b) refl
  where
    by_test : (t : Bool) → ltb a b ≡ t → ltb (a + k) (b + k) ≡ t
    by_test true e = lt-ltb (a + k) (b + k) (omega (arith, ltb-true a b e))
    by_test false e = le-ltb (a + k) (b + k) (omega (arith, ltb-false a b e))

pub shifted_eqb : (k a b : ℕ) → eqb (a + k) (b + k) ≡ eqb a b
shifted_eqb k a b = by_test (eqb a b) refl
  where
    by_test : (t : Bool) → eqb a b ≡ t → eqb (a + k) (b + k) ≡ t
    by_test true e = eq-eqb (a + k) (b + k) (omega (arith, eqb-true a b e))
    by_test false e = ne_eqb (a + k) (b + k) (λ z. eqb-false a b e (omega arith))

-- the inputs of a clock
input_count_shifted : (k clock : ℕ) (ts : List ℕ) → input_count (clock + k) (shifted_clocks k ts) ≡ input_count clock ts
unfolding input_count
input_count_shifted k clock [] = refl
input_count_shifted k clock (t ∷ ts) = rw (shifted_eqb k t clock, input_count_shifted k clock ts)

-- the rule of a pin list: "Clocks never fall", and "The first clock is above the state's."
module _ (last_pin k : ℕ) where
  rest_shifted : (clock pin : ℕ) (ts codes : List ℕ)
      → rest_right last_pin (clock + k) pin (shifted_clocks k ts) codes ≡ rest_right last_pin clock pin ts codes
  unfolding rest_right entry_right
  rest_shifted clock pin [] [] = refl
  rest_shifted clock pin [] (code ∷ codes) = refl
  rest_shifted clock pin (t ∷ ts) [] = refl
  rest_shifted clock pin (t ∷ ts) (code ∷ codes) =
      rw (shifted_ltb k clock t, shifted_eqb k clock t, rest_shifted t (pin_of code) ts codes)

  pub pins_shifted : (clock : ℕ) (ts codes : List ℕ)
      → pins_right last_pin (clock + k) (shifted_clocks k ts) codes ≡ pins_right last_pin clock ts codes
  unfolding pins_right
  pins_shifted clock [] [] = refl
  pins_shifted clock [] (code ∷ codes) = refl
  pins_shifted clock (t ∷ ts) [] = refl
  pins_shifted clock (t ∷ ts) (code ∷ codes) = rw (shifted_ltb k clock t, rest_shifted t (pin_of code) ts codes)

-- parts of lists
drop_map : (f : ℕ → ℕ) (n : ℕ) (l : List ℕ) → drop n (map f l) ≡ map f (drop n l)
drop_map f zero l = refl
drop_map f (suc n) [] = refl
drop_map f (suc n) (x ∷ l) = drop_map f n l

map_end : (f : ℕ → ℕ) (there : Bool) (x : ℕ) (l : List ℕ)
    → map f (l ++ cond there (x ∷ []) []) ≡ map f l ++ cond there (f x ∷ []) []
map_end f true x [] = refl
map_end f false x [] = refl
map_end f there x (y ∷ l) = ap (λ r. f y ∷ r) (map_end f there x l)

-- the entries up to one that is set, if it is there
take_set : (n x : ℕ) (l : List ℕ) → take (suc n) (set l n x) ≡ take n l ++ cond (ltb n (length l)) (x ∷ []) []
take_set n x [] = by_place n
  where
    by_place : (n : ℕ) → take (suc n) (set [] n x) ≡ take n [] ++ cond (ltb n 0) (x ∷ []) []
    by_place zero = refl
    by_place (suc n) = rw (le-ltb (suc n) 0 (omega arith))
take_set zero x (y ∷ l) = rw (lt-ltb 0 (suc (length l)) (omega arith))
take_set (suc n) x (y ∷ l) =
    ap (λ r. y ∷ r)
    (take_set n x l ∙ ap (λ (b : Bool). take n l ++ cond b (x ∷ []) []) (suc_ltb (ltb n (length l)) refl))
  where
    suc_ltb : (t : Bool) → ltb n (length l) ≡ t → ltb n (length l) ≡ ltb (suc n) (suc (length l))
    suc_ltb true e = e ∙ sym (lt-ltb (suc n) (suc (length l)) (omega (arith, ltb-true n (length l) e)))
    suc_ltb false e = e ∙ sym (le-ltb (suc n) (suc (length l)) (omega (arith, ltb-false n (length l) e)))

-- a record put: it is one of those written
module _ (k written time word : ℕ) (times words times' words' : List ℕ)
    (r : ShiftedRecords k written times words times' words') where
  put_shifted : (differs : Bool)
      → ShiftedRecords k (written + one_where differs) (put_record differs written time times)
      (put_record differs written word words)
      (put_record differs written (time + k) times') (put_record differs written word words')
  unfolding put_record
  put_shifted true = record {
    clock_space = length-set times' written (time + k) ∙ r.clock_space ∙ sym (length-set times written time);
    word_space = length-set words' written word ∙ r.word_space ∙ sym (length-set words written word);
    record_clocks =
        rw (
          add-one written,
          take_set written (time + k) times',
          take_set written time times,
          r.record_clocks,
          r.clock_space,
          map_end (λ (t : ℕ). t + k) (ltb written (length times)) time (take written times),
        );
    record_words =
        rw (
          add-one written,
          take_set written word words',
          take_set written word words,
          r.record_words,
          r.word_space,
        );
  }
  put_shifted false = rw (add-zero written) r

-- ---- one clock

-- what a run leads to
pub record ShiftedRun {S : Type 0} (shift : ℕ → S → S) (k : ℕ) (r u : Run (WorldOf S)) : Type 0 where
  pub world : ShiftedWorld shift k r.world u.world
  pub leaps : u.leaps ≡ r.leaps

module _ {S : Type 0} (C : ChipRules S) (shift : ℕ → S → S) (L : ShiftLaws C shift) (k : ℕ) where
  abbrev Alike : WorldOf S → WorldOf S → Type 0
  Alike = ShiftedWorld shift k

  module _ (w v : WorldOf S) (r : Alike w v) where
    pub shifted_clock : C.clock v.state ≡ C.clock w.state + k
    shifted_clock = ap C.clock r.state ∙ L.clock k w.state

    pub running_shifted : running_in v ≡ running_in w
    running_shifted = ap (λ (n : ℕ). eqb n 0) r.stop

    input_count_in_shifted : input_count_in C v ≡ input_count_in C w
    input_count_in_shifted =
        let e : C.clock v.state + 1 ≡ C.clock w.state + 1 + k = omega (arith, shifted_clock) in
        rw (e, r.input_clocks) (input_count_shifted k (C.clock w.state + 1) w.input_clocks)

    outcome_shifted : (inputs : ℕ) → outcome_in C v inputs ≡ shifted_outcome shift k (outcome_in C w inputs)
    outcome_shifted inputs =
        by_parts v.state v.input_codes v.memory v.written (length v.output_clocks) r.state
        r.input_codes r.memory r.written
        r.records.clock_space
      where
        by_parts : (s : S) (codes memory : List ℕ) (written space : ℕ) → s ≡ shift k w.state → codes ≡ w.input_codes
            → memory ≡ w.memory
            → written ≡ w.written → space ≡ length w.output_clocks
            → C.outcome s (take inputs codes) memory (ltb written space)
            ≡ shifted_outcome shift k (outcome_in C w inputs)
        by_parts s codes memory written space a b c d e =
            rw (a, b, c, d, e)
            (L.outcome k w.state (take inputs w.input_codes) w.memory
            (ltb w.written (length w.output_clocks)))

    after_shifted : (inputs : ℕ) (o : ClockOutcome S)
        → Alike (after C w inputs o) (after C v inputs (shifted_outcome shift k o))
    after_shifted inputs (stopped number) = record {
      state = r.state;
      memory = r.memory;
      input_clocks = r.input_clocks;
      input_codes = r.input_codes;
      records = r.records;
      read = r.read;
      written = r.written;
      stop = refl;
    }
    after_shifted inputs (ended d) = record {
      state = refl;
      memory = refl;
      input_clocks = ap (drop inputs) r.input_clocks ∙ drop_map (λ (t : ℕ). t + k) inputs w.input_clocks;
      input_codes = ap (drop inputs) r.input_codes;
      records =
          rw (r.written, L.clock k d.state)
          (put_shifted k w.written (C.clock d.state) d.word w.output_clocks w.output_words
          v.output_clocks v.output_words r.records d.differs);
      read = ap (λ (n : ℕ). n + inputs) r.read;
      written = ap (λ (n : ℕ). n + one_where d.differs) r.written;
      stop = refl;
    }

    -- a plain clock
    pub plain_shifted : Alike (plain_of C w) (plain_of C v)
    unfolding plain_of
    plain_shifted =
        by_parts (running_in w) (running_in v) running_shifted (input_count_in C w) (input_count_in C v) input_count_in_shifted
        (outcome_in C v (input_count_in C v))
        (ap (outcome_in C v) input_count_in_shifted ∙ outcome_shifted (input_count_in C w))
      where
        by_parts : (t u : Bool) → u ≡ t → (inputs inputs' : ℕ) → inputs' ≡ inputs
            → (o : ClockOutcome S) → o ≡ shifted_outcome shift k (outcome_in C w inputs)
            → Alike (cond t (after C w inputs (outcome_in C w inputs)) w) (cond u (after C v inputs' o) v)
        by_parts true u e inputs inputs' d o f = rw (e, d, f) (after_shifted inputs (outcome_in C w inputs))
        by_parts false u e inputs inputs' d o f = rw e r

    -- whether the next clock is done, and whether it is an event clock
    done_shifted : done_in C v ≡ done_in C w
    unfolding done_in
    done_shifted =
        rw (running_shifted, input_count_in_shifted, outcome_shifted (input_count_in C w))
        (ap (λ (b : Bool). cond (running_in w) b false) (same (outcome_in C w (input_count_in C w))))
      where
        same : (o : ClockOutcome S) → is_done (shifted_outcome shift k o) ≡ is_done o
        same (stopped number) = refl
        same (ended d) = refl

    event_shifted : event_in C v ≡ event_in C w
    unfolding event_in
    event_shifted =
        by_parts v.state v.input_codes (input_count_in C v) r.state r.input_codes input_count_in_shifted
      where
        by_parts : (s : S) (codes : List ℕ) (inputs : ℕ) → s ≡ shift k w.state → codes ≡ w.input_codes
            → inputs ≡ input_count_in C w
            → C.event s (take inputs codes) ≡ C.event w.state (take (input_count_in C w) w.input_codes)
        by_parts s codes inputs a b c = rw (a, b, c) (L.event k w.state (take (input_count_in C w) w.input_codes))

    -- the gap, and the gap passed
    gap_shifted : (n : ℕ) → C.gap n v.state v.input_clocks ≡ C.gap n w.state w.input_clocks
    gap_shifted n = rw (r.state, r.input_clocks) (L.gap k n w.state w.input_clocks)

    pass_shifted : (g : ℕ) → Alike (pass_in C g w) (pass_in C g v)
    pass_shifted g = record {
      state = ap (C.pass g) r.state ∙ L.pass k g w.state;
      memory = r.memory;
      input_clocks = r.input_clocks;
      input_codes = r.input_codes;
      records = r.records;
      read = r.read;
      written = r.written;
      stop = r.stop;
    }

  -- ---- any number of clocks

  pub plains_shifted : (n : ℕ) (w v : WorldOf S) → Alike w v → Alike (plains (system_of C) n w) (plains (system_of C) n v)
  unfolding plains
  plains_shifted zero w v r = r
  plains_shifted (suc n) w v r = plains_shifted n (plain_of C w) (plain_of C v) (plain_shifted w v r)

  -- the clocks done and their events
  pub trace_shifted : (n : ℕ) (w v : WorldOf S) → Alike w v → trace (system_of C) n v ≡ trace (system_of C) n w
  unfolding trace
  trace_shifted zero w v r = refl
  trace_shifted (suc n) w v r =
      by_done (done_in C w) (done_in C v) (done_shifted w v r)
      (trace_shifted n (plain_of C w) (plain_of C v) (plain_shifted w v r))
    where
      from : Bool → WorldOf S → List Bool
      from d x = elim d [ true ↦ event_in C x ∷ trace (system_of C) n (plain_of C x) | false ↦ [] ]

      by_done : (d e : Bool) → e ≡ d → trace (system_of C) n (plain_of C v) ≡ trace (system_of C) n (plain_of C w)
          → from e v ≡ from d w
      by_done true e f later = rw (f, event_shifted w v r, later)
      by_done false e f later = rw f

  -- document 01's leap count
  pub count_shifted : (n : ℕ) (w v : WorldOf S) → Alike w v → leap_count (system_of C) n v ≡ leap_count (system_of C) n w
  unfolding leap_count
  count_shifted n w v r = rw (trace_shifted n w v r)

  -- ---- leaps

  leap_shifted : (n : ℕ) (w v : WorldOf S) → Alike w v → Alike (leap_of (system_of C) n w) (leap_of (system_of C) n v)
  unfolding leap_of
  leap_shifted n w v r =
      by_gap (C.gap n w.state w.input_clocks) (C.gap n v.state v.input_clocks) (gap_shifted w v r n)
    where
      by_test : (g : ℕ) (t : Bool)
          → Alike (cond t (plain_of C (pass_in C g w)) (pass_in C g w)) (cond t (plain_of C (pass_in C g v)) (pass_in C g v))
      by_test g true = plain_shifted (pass_in C g w) (pass_in C g v) (pass_shifted w v r g)
      by_test g false = pass_shifted w v r g

      by_gap : (g h : ℕ) → h ≡ g
          → Alike (cond (ltb g n) (plain_of C (pass_in C g w)) (pass_in C g w))
          (cond (ltb h n) (plain_of C (pass_in C h v)) (pass_in C h v))
      by_gap g h e = rw e (by_test g (ltb g n))

  pub moved_shifted : (w v x y : WorldOf S) → Alike w v → Alike x y
      → moved_of (system_of C) v y ≡ moved_of (system_of C) w x
  unfolding moved_of
  moved_shifted w v x y r s =
      rw (shifted_clock w v r, shifted_clock x y s)
      (ap one_where (shifted_ltb k (C.clock w.state) (C.clock x.state)))

  leaps_shifted : (most n : ℕ) (w v : WorldOf S) → Alike w v
      → ShiftedRun shift k (leaps_of (system_of C) most n w) (leaps_of (system_of C) most n v)
  unfolding leaps_of
  leaps_shifted zero n w v r = record { world = r; leaps = refl }
  leaps_shifted (suc most) n w v r =
      again (ltb 0 n && running_in w) (ltb 0 n && running_in v) (ap (λ (b : Bool). ltb 0 n && b) (running_shifted w v r))
      (left_after (system_of C) n v) (ap (λ (g : ℕ). n - (g + 1)) (gap_shifted w v r n))
      (leaps_shifted most (left_after (system_of C) n w) (leap_of (system_of C) n w) (leap_of (system_of C) n v)
      (leap_shifted n w v r))
    where
      from : Bool → ℕ → WorldOf S → Run (WorldOf S)
      from t left x =
          elim t [
            | true ↦ let later = leaps_of (system_of C) most left (leap_of (system_of C) n x) in
                record { world = later.world; leaps = moved_of (system_of C) x (leap_of (system_of C) n x) + later.leaps }
            | false ↦ record { world = x; leaps = 0 }
          ]

      again : (t u : Bool) → u ≡ t → (left : ℕ) → left ≡ left_after (system_of C) n w
          → ShiftedRun shift k (leaps_of (system_of C) most (left_after (system_of C) n w) (leap_of (system_of C) n w))
          (leaps_of (system_of C) most (left_after (system_of C) n w) (leap_of (system_of C) n v))
          → ShiftedRun shift k (from t (left_after (system_of C) n w) w) (from u left v)
      again true u e left f later =
          rw (e, f)
          (record {
            world = later.world;
            leaps =
                rw (
                  moved_shifted w v (leap_of (system_of C) n w) (leap_of (system_of C) n v) r (leap_shifted n w v r),
                  later.leaps,
                );
          })
      again false u e left f later = rw e (record { world = r; leaps = refl })

  -- the run: world and leaps
  pub run_shifted : (n : ℕ) (w v : WorldOf S) → Alike w v
      → ShiftedRun shift k (run (system_of C) n w) (run (system_of C) n v)
  unfolding run
  run_shifted n w v r = leaps_shifted n n w v r
