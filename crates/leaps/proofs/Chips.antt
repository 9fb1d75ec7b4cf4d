-- A chip that keeps the laws below, with its memory and lists, is a machine whose leaps are lawful.
use mathlib.Core.Path.{◌≡◌, refl, sym, ◌∙◌}
use mathlib.Core.Bool.{Bool, true, false, false≢true}
use mathlib.Core.List.{List, []}
use Prim.Native.Nat.{ℕ, zero, suc, ◌+◌, ◌-◌, ◌≤◌, ◌<◌}
use native.Mathlib.Nat.{add-zero}
use native.Mathlib.Omega.{arith}
use lib.Dec.{ltb, eqb}
use lib.ListN.{length, take, set, length-set}
use borrow.Author.Tests.{ltb-true, eqb-true, ne_eqb}
use Rattle.bits.specs.Bits.{one_where}
use Rattle.bits.proofs.Cond.{cond_both}
use Rattle.pin_lists.specs.PinLists.{pins_right, input_count}
use Rattle.pin_lists.proofs.PinLists.{right_read, input_count_within}
use Rattle.leaps.specs.Chip.{ChipRules, ClockEnd, ClockOutcome, stopped, ended}
use Rattle.leaps.specs.Leaps.{plains}
use Rattle.leaps.specs.World.{WorldOf, put_record, stopped_at, moved_to, after, input_count_in, outcome_in, plain_of}
use Rattle.leaps.specs.World.{running_in}
use Rattle.leaps.specs.World.{is_done, done_in, event_in, pass_in, system_of}
use Rattle.leaps.specs.Calls.{is_stop, stop_of, Fit}
use Rattle.leaps.proofs.Laws.{Lawful}

-- what is asked of a chip
pub record ChipLaws {S : Type 0} (C : ChipRules S) : Type 0 where
  -- a clock that is done: "Clock plus 1"; every field stays in its range; memory keeps its length; a record that is put
  -- has room; a stop that it ends in is one by name
  pub done_clock : (s : S) (codes memory : List ℕ) (free : Bool) (d : ClockEnd S)
      → C.outcome s codes memory free ≡ ended d
      → C.clock d.state ≡ C.clock s + 1
  pub done_formed : (s : S) (codes memory : List ℕ) (free : Bool) (d : ClockEnd S) → C.well_formed s ≡ true
      → C.outcome s codes memory free ≡ ended d → C.well_formed d.state ≡ true
  pub done_memory : (s : S) (codes memory : List ℕ) (free : Bool) (d : ClockEnd S)
      → C.outcome s codes memory free ≡ ended d
      → length d.memory ≡ length memory
  pub done_room : (s : S) (codes memory : List ℕ) (free : Bool) (d : ClockEnd S)
      → C.outcome s codes memory free ≡ ended d
      → d.differs ≡ true → free ≡ true
  pub done_stop : (s : S) (codes memory : List ℕ) (free : Bool) (d : ClockEnd S)
      → C.outcome s codes memory free ≡ ended d
      → stop_of d.stop ≡ d.stop
  -- the number of a clock that is not done is a stop by name
  pub stopped_stop : (s : S) (codes memory : List ℕ) (free : Bool) (number : ℕ)
      → C.outcome s codes memory free ≡ stopped number
      → is_stop number ≡ true
  -- the first clock of a gap has no input, is no event clock, is done, and is a gap of one clock passed: nothing else
  -- changes
  pub gap_input : (n : ℕ) (s : S) (clocks : List ℕ) → 0 < C.gap n s clocks → input_count (C.clock s + 1) clocks ≡ 0
  pub gap_quiet : (n : ℕ) (s : S) (clocks : List ℕ) → 0 < C.gap n s clocks → C.event s [] ≡ false
  pub gap_word : S → ℕ
  pub gap_outcome : (n : ℕ) (s : S) (clocks memory : List ℕ) (free : Bool) → 0 < C.gap n s clocks
      → C.outcome s [] memory free
      ≡ ended (record { state = C.pass 1 s; memory = memory; differs = false; word = gap_word s; stop = 0 })
  -- "at most those left", and one clock nearer with each clock
  pub gap_le : (n : ℕ) (s : S) (clocks : List ℕ) → C.gap n s clocks ≤ n
  pub gap_passed : (g n : ℕ) (s : S) (clocks : List ℕ) → C.gap (n - g) (C.pass g s) clocks ≡ C.gap n s clocks - g
  -- with a clock left and no gap, the next clock is an event clock, of a right pin list
  pub gap_event : (n : ℕ) (s : S) (clocks codes : List ℕ) → pins_right C.limits.pin (C.clock s) clocks codes ≡ true
      → 0 < n
      → C.gap n s clocks ≡ 0 → C.event s (take (input_count (C.clock s + 1) clocks) codes) ≡ true
  -- gaps passed add up; "clock plus gap"
  pub pass_zero : (s : S) → C.pass 0 s ≡ s
  pub pass_add : (g h : ℕ) (s : S) → C.pass h (C.pass g s) ≡ C.pass (g + h) s
  pub pass_clock : (g : ℕ) (s : S) → C.clock (C.pass g s) ≡ C.clock s + g

-- 6, 7 and 12 are stops
pub stops_named : (is_stop 6 ≡ true) × (is_stop 7 ≡ true) × (is_stop 12 ≡ true)
stops_named = (refl, refl, refl)

-- a stop is not 0, and is its own stop
pub stop_some : (number : ℕ) → is_stop number ≡ true → eqb number 0 ≡ false
stop_some number e = ne_eqb number 0 (λ z. false≢true (rw z at e))

pub stop_itself : (number : ℕ) → is_stop number ≡ true → stop_of number ≡ number
unfolding stop_of
stop_itself number e = rw e

pub record_length_lem : (differs : Bool) (at value : ℕ) (l : List ℕ) → length (put_record differs at value l) ≡ length l
unfolding put_record
record_length_lem differs at value l =
    cond_both (λ (x : List ℕ). length x ≡ length l) differs (set l at value) l (λ _. length-set l at value) (λ _. refl)

-- the records written stay within the output space
written_within : (differs : Bool) (written space : ℕ) → written ≤ space → (differs ≡ true → ltb written space ≡ true)
    → written + one_where differs ≤ space
written_within true written space h room = let l = ltb-true written space (room refl) in omega arith
written_within false written space h room = omega arith

-- how far a plain clock goes, of any world
pub record Advanced {S : Type 0} (C : ChipRules S) (w v : WorldOf S) : Type 0 where
  pub clock : C.clock v.state ≤ C.clock w.state + 1
  pub read : v.read ≤ w.read + length w.input_clocks
  pub memory : length v.memory ≡ length w.memory
  pub output_clocks : length v.output_clocks ≡ length w.output_clocks
  pub output_words : length v.output_words ≡ length w.output_words
  pub written : w.written ≤ length w.output_clocks → v.written ≤ length w.output_clocks

module _ {S : Type 0} (C : ChipRules S) (L : ChipLaws C) where
  module _ (w : WorldOf S) where
    -- a clock where nothing has stopped, and one where something has
    pub plain_on : running_in w ≡ true → plain_of C w ≡ after C w (input_count_in C w) (outcome_in C w (input_count_in C w))
    unfolding plain_of
    plain_on e = rw e

    plain_off : running_in w ≡ false → plain_of C w ≡ w
    unfolding plain_of
    plain_off e = rw e

    done_on : running_in w ≡ true → done_in C w ≡ is_done (outcome_in C w (input_count_in C w))
    unfolding done_in
    done_on e = rw e

    done_off : running_in w ≡ false → done_in C w ≡ false
    unfolding done_in
    done_off e = rw e

    -- a clock that is done, and one that is not
    done_counts : done_in C w ≡ true → C.clock (plain_of C w).state ≡ C.clock w.state + 1
    done_counts d = by_running (running_in w) refl
      where
        by_outcome : (o : ClockOutcome S) → outcome_in C w (input_count_in C w) ≡ o → is_done o ≡ true
            → C.clock (after C w (input_count_in C w) o).state ≡ C.clock w.state + 1
        by_outcome (stopped number) e z = absurd (false≢true z)
        by_outcome (ended end) e z = L.done_clock w.state _ w.memory _ end e

        by_running : (r : Bool) → running_in w ≡ r → C.clock (plain_of C w).state ≡ C.clock w.state + 1
        by_running true e = rw (plain_on e) (by_outcome (outcome_in C w (input_count_in C w)) refl (sym (done_on e) ∙ d))
        by_running false e = absurd (false≢true (sym (done_off e) ∙ d))

    undone_stays : done_in C w ≡ false
        → (C.clock (plain_of C w).state ≡ C.clock w.state) × (running_in (plain_of C w) ≡ false)
    undone_stays d = by_running (running_in w) refl
      where
        by_outcome : (o : ClockOutcome S) → outcome_in C w (input_count_in C w) ≡ o → is_done o ≡ false
            → (C.clock (after C w (input_count_in C w) o).state ≡ C.clock w.state)
            × (running_in (after C w (input_count_in C w) o) ≡ false)
        by_outcome (stopped number) e z = (refl, stop_some number (L.stopped_stop w.state _ w.memory _ number e))
        by_outcome (ended end) e z = absurd (false≢true (sym z))

        by_running : (r : Bool) → running_in w ≡ r
            → (C.clock (plain_of C w).state ≡ C.clock w.state) × (running_in (plain_of C w) ≡ false)
        by_running true e = rw (plain_on e) (by_outcome (outcome_in C w (input_count_in C w)) refl (sym (done_on e) ∙ d))
        by_running false e = rw (plain_off e) (refl, e)

    -- a clock of a gap
    module _ (n : ℕ) (inside : 0 < C.gap n w.state w.input_clocks) where
      quiet_plain : running_in w ≡ true → plain_of C w ≡ pass_in C 1 w
      unfolding put_record
      quiet_plain e =
          rw (
            plain_on e,
            L.gap_input n w.state w.input_clocks inside,
            L.gap_outcome n w.state w.input_clocks w.memory (ltb w.written (length w.output_clocks))
                inside,
            add-zero w.read,
            add-zero w.written,
            eqb-true w.stop 0 e,
          )

      quiet_done : running_in w ≡ true → done_in C w ≡ true
      quiet_done e =
          rw (
            done_on e,
            L.gap_input n w.state w.input_clocks inside,
            L.gap_outcome n w.state w.input_clocks w.memory (ltb w.written (length w.output_clocks))
                inside,
          )

      quiet_event : event_in C w ≡ false
      unfolding event_in
      quiet_event =
          rw (event_in, L.gap_input n w.state w.input_clocks inside)
          (L.gap_quiet n w.state w.input_clocks inside)

  pub lawful : Lawful (system_of C)
  lawful = record {
    stopped_plain = plain_off;
    stopped_done = done_off;
    done_clock = done_counts;
    undone_clock = λ w d. (undone_stays w d).0;
    undone_stops = λ w d. (undone_stays w d).1;
    quiet_plain = λ n w e h. quiet_plain w n h e;
    quiet_done = λ n w e h. quiet_done w n h e;
    quiet_event = λ n w h. quiet_event w n h;
    gap_le = λ n w. L.gap_le n w.state w.input_clocks;
    gap_passed = λ g n w. L.gap_passed g n w.state w.input_clocks;
    pass_zero = λ w. rw (L.pass_zero w.state);
    pass_add = λ g h w. rw (L.pass_add g h w.state);
    pass_running = λ g w. refl;
    pass_clock = λ g w. L.pass_clock g w.state;
  }

  -- a world of demand 3 whose next clock is not in a gap: it is an event clock
  pub no_gap_event : (n : ℕ) (w : WorldOf S) → Fit C w → 0 < n → C.gap n w.state w.input_clocks ≡ 0
      → event_in C w ≡ true
  unfolding event_in
  no_gap_event n w f h none = L.gap_event n w.state w.input_clocks w.input_codes f.pins h none

  -- ---- what a plain clock keeps

  module _ (w : WorldOf S) (f : Fit C w) where
    moved_fits : (d : ClockEnd S) → outcome_in C w (input_count_in C w) ≡ ended d
        → Fit C (moved_to C d (input_count_in C w) w)
    moved_fits d e =
        record {
          memory = L.done_memory w.state _ w.memory _ d e ∙ f.memory;
          state = L.done_formed w.state _ w.memory _ d f.state e;
          pins =
              rw (L.done_clock w.state _ w.memory _ d e)
              (right_read C.limits.pin (C.clock w.state) w.input_clocks w.input_codes f.pins);
          outputs =
              record_length_lem d.differs _ _ w.output_clocks ∙ f.outputs
              ∙ sym (record_length_lem d.differs _ _ w.output_words);
          written = rw (record_length_lem d.differs w.written (C.clock d.state) w.output_clocks)
              (written_within d.differs w.written (length w.output_clocks) f.written
              (L.done_room w.state _ w.memory _ d e));
        }

    stopped_fits : (number : ℕ) → Fit C (stopped_at number w)
    stopped_fits number =
        record { memory = f.memory; state = f.state; pins = f.pins; outputs = f.outputs; written = f.written }

    -- a plain clock keeps what demand 3 starts from
    pub plain_fits : Fit C (plain_of C w)
    unfolding plain_of
    plain_fits = cond_both (Fit C) (running_in w) _ w (λ _. by_outcome (outcome_in C w (input_count_in C w)) refl) (λ _. f)
      where
        by_outcome : (o : ClockOutcome S) → outcome_in C w (input_count_in C w) ≡ o
            → Fit C (after C w (input_count_in C w) o)
        by_outcome (stopped number) d = stopped_fits number
        by_outcome (ended e) d = moved_fits e d

  pub plain_advances : (w : WorldOf S) → Advanced C w (plain_of C w)
  unfolding plain_of
  plain_advances w =
      cond_both (Advanced C w) (running_in w) _ w (λ _. by_outcome (outcome_in C w (input_count_in C w)) refl) (λ _. same)
    where
      same : Advanced C w w
      same =
          record {
            clock = omega arith;
            read = omega arith;
            memory = refl;
            output_clocks = refl;
            output_words = refl;
            written = λ h. h;
          }

      by_outcome : (o : ClockOutcome S) → outcome_in C w (input_count_in C w) ≡ o
          → Advanced C w (after C w (input_count_in C w) o)
      by_outcome (stopped number) d =
          record {
            clock = omega arith;
            read = omega arith;
            memory = refl;
            output_clocks = refl;
            output_words = refl;
            written = λ h. h;
          }
      by_outcome (ended e) d =
          record {
            clock = omega (arith, L.done_clock w.state _ w.memory _ e d);
            read = omega (arith, input_count_within (C.clock w.state + 1) w.input_clocks);
            memory = L.done_memory w.state _ w.memory _ e d;
            output_clocks = record_length_lem e.differs _ _ w.output_clocks;
            output_words = record_length_lem e.differs _ _ w.output_words;
            written =
                λ h. written_within e.differs w.written (length w.output_clocks) h
                (L.done_room w.state _ w.memory _ e d);
          }

  -- n plain clocks are at most n clocks
  pub clock_most : (n : ℕ) (w : WorldOf S) → C.clock (plains (system_of C) n w).state ≤ C.clock w.state + n
  unfolding plains
  clock_most zero w = omega arith
  clock_most (suc n) w = omega (arith, clock_most n (plain_of C w), (plain_advances w).clock)

  -- the stop is its own
  plain_stop : (w : WorldOf S) → stop_of w.stop ≡ w.stop → stop_of (plain_of C w).stop ≡ (plain_of C w).stop
  unfolding plain_of
  plain_stop w h =
      cond_both (λ (v : WorldOf S). stop_of v.stop ≡ v.stop) (running_in w) _ w
      (λ _. by_outcome (outcome_in C w (input_count_in C w)) refl) (λ _. h)
    where
      by_outcome : (o : ClockOutcome S) → outcome_in C w (input_count_in C w) ≡ o
          → stop_of (after C w (input_count_in C w) o).stop ≡ (after C w (input_count_in C w) o).stop
      by_outcome (stopped number) e = stop_itself number (L.stopped_stop w.state _ w.memory _ number e)
      by_outcome (ended d) e = L.done_stop w.state _ w.memory _ d e

  pub plains_stop : (n : ℕ) (w : WorldOf S) → stop_of w.stop ≡ w.stop
      → stop_of (plains (system_of C) n w).stop ≡ (plains (system_of C) n w).stop
  unfolding plains
  plains_stop zero w h = h
  plains_stop (suc n) w h = plains_stop n (plain_of C w) (plain_stop w h)
