-- A call works on a part of the lists: plain clocks on the part are plain clocks on the whole. What they have read is
-- the front of the input list.
use mathlib.Core.Path.{◌≡◌, refl, sym, ap, ◌∙◌}
use mathlib.Core.Bool.{Bool, true, false, cond}
use mathlib.Core.List.{List, [], ◌∷◌, ◌++◌}
use Prim.Native.Nat.{ℕ, zero, suc, ◌+◌}
use native.Mathlib.Nat.{add-zero, add_assoc}
use native.Mathlib.Omega.{arith}
use lib.Dec.{ltb}
use lib.ListN.{length, take, drop, set, length-append, take-append-drop}
use lib.Seq.{length-take-le, drop-drop}
use borrow.Author.Tests.{ltb-true, ltb-false, lt-ltb, le-ltb}
use Rattle.bits.specs.Bits.{one_where}
use Rattle.bits.proofs.Cond.{cond_both}
use Rattle.leaps.specs.Leaps.{plains, trace, leap_count}
use Rattle.leaps.specs.Chip.{ChipRules, ClockOutcome, stopped, ended}
use Rattle.leaps.specs.World.{WorldOf, put_record, after, input_count_in, outcome_in, plain_of}
use Rattle.leaps.specs.World.{running_in}
use Rattle.leaps.specs.World.{done_in, event_in, system_of}
use Rattle.leaps.specs.Calls.{lent_of, Room}
use Rattle.leaps.proofs.Laws.{trace_done, trace_undone}
use Rattle.leaps.proofs.Chips.{ChipLaws, lawful}

-- a store behind the front of a list
set_behind : (front l : List ℕ) (k i x : ℕ) → length front ≡ k → set (front ++ l) (k + i) x ≡ front ++ set l i x
set_behind [] l k i x e = let z : k ≡ 0 = sym e in let j : k + i ≡ i = omega arith in rw j
set_behind (y ∷ front) l k i x e =
    let j : k + i ≡ suc (length front + i) = omega arith in
    rw j (ap (λ r. y ∷ r) (set_behind front l (length front) i x refl))

put_behind : (differs : Bool) (front l : List ℕ) (k i x : ℕ) → length front ≡ k
    → put_record differs (k + i) x (front ++ l) ≡ front ++ put_record differs i x l
unfolding put_record
put_behind true front l k i x e = set_behind front l k i x e
put_behind false front l k i x e = refl

-- whether an entry is free
free_behind : (front l : List ℕ) (k i : ℕ) → length front ≡ k → ltb (k + i) (length (front ++ l)) ≡ ltb i (length l)
free_behind front l k i e = rw (length-append front l) (by_test (ltb i (length l)) refl)
  where
    by_test : (t : Bool) → ltb i (length l) ≡ t → ltb (k + i) (length front + length l) ≡ t
    by_test true h = lt-ltb (k + i) (length front + length l) (omega (arith, ltb-true i (length l) h))
    by_test false h = le-ltb (k + i) (length front + length l) (omega (arith, ltb-false i (length l) h))

module _ {S : Type 0} where
  -- the whole of which `v` is the part that a call was lent of `w`: the records already written stand before its own
  abbrev pub whole_of : WorldOf S → WorldOf S → WorldOf S
  whole_of w v = record {
    state = v.state;
    memory = v.memory;
    input_clocks = v.input_clocks;
    input_codes = v.input_codes;
    output_clocks = take w.written w.output_clocks ++ v.output_clocks;
    output_words = take w.written w.output_words ++ v.output_words;
    read = w.read + v.read;
    written = w.written + v.written;
    stop = v.stop;
  }

  -- what a call is lent is a part of the whole
  pub lent_whole : (w : WorldOf S) → w.stop ≡ 0 → whole_of w (lent_of w) ≡ w
  lent_whole w on =
      rw (
        take-append-drop w.written w.output_clocks,
        take-append-drop w.written w.output_words,
        add-zero w.read,
        add-zero w.written,
        ← on,
      )

-- from `u` to `v` some inputs were read
pub record Rest {S : Type 0} (u v : WorldOf S) : Type 0 where
  pub count : ℕ
  pub input_clocks : v.input_clocks ≡ drop count u.input_clocks
  pub input_codes : v.input_codes ≡ drop count u.input_codes
  pub read : v.read ≡ u.read + count

module _ {S : Type 0} (C : ChipRules S) where
  none_read : (u : WorldOf S) → Rest u u
  none_read u = record { count = 0; input_clocks = refl; input_codes = refl; read = sym (add-zero u.read) }

  plain_rest : (u : WorldOf S) → Rest u (plain_of C u)
  unfolding plain_of
  plain_rest u =
      cond_both (Rest u) (running_in u) _ u (λ _. by_outcome (outcome_in C u (input_count_in C u))) (λ _. none_read u)
    where
      by_outcome : (o : ClockOutcome S) → Rest u (after C u (input_count_in C u) o)
      by_outcome (stopped number) =
          record { count = 0; input_clocks = refl; input_codes = refl; read = sym (add-zero u.read) }
      by_outcome (ended e) = record { count = input_count_in C u; input_clocks = refl; input_codes = refl; read = refl }

  more_read : (u v x : WorldOf S) → Rest u v → Rest v x → Rest u x
  more_read u v x a b = record {
    count = a.count + b.count;
    input_clocks =
        b.input_clocks ∙ ap (drop b.count) a.input_clocks ∙ drop-drop b.count a.count u.input_clocks;
    input_codes = b.input_codes ∙ ap (drop b.count) a.input_codes ∙ drop-drop b.count a.count u.input_codes;
    read = b.read ∙ ap (λ (k : ℕ). k + b.count) a.read ∙ add_assoc u.read a.count b.count;
  }

  pub plains_rest : (n : ℕ) (u : WorldOf S) → Rest u (plains (system_of C) n u)
  unfolding plains
  plains_rest zero u = none_read u
  plains_rest (suc n) u =
      more_read u (plain_of C u) (plains (system_of C) n (plain_of C u)) (plain_rest u) (plains_rest n (plain_of C u))

  module _ (w v : WorldOf S) (room : Room w) where
    before_clocks : length (take w.written w.output_clocks) ≡ w.written
    before_clocks = length-take-le w.written w.output_clocks room.output_clocks

    before_words : length (take w.written w.output_words) ≡ w.written
    before_words = length-take-le w.written w.output_words room.output_words

    outcome_whole : outcome_in C (whole_of w v) (input_count_in C (whole_of w v)) ≡ outcome_in C v (input_count_in C v)
    outcome_whole =
        rw (
          outcome_in,
          free_behind (take w.written w.output_clocks) v.output_clocks w.written v.written before_clocks,
        )

    after_whole : (o : ClockOutcome S)
        → after C (whole_of w v) (input_count_in C v) o ≡ whole_of w (after C v (input_count_in C v) o)
    after_whole (stopped number) = refl
    after_whole (ended e) =
        rw (
          put_behind e.differs (take w.written w.output_clocks) v.output_clocks w.written v.written
              (C.clock e.state) before_clocks,
          put_behind e.differs (take w.written w.output_words) v.output_words w.written v.written
              e.word before_words,
          add_assoc w.read v.read (input_count_in C v),
          add_assoc w.written v.written (one_where e.differs),
        )

    -- a plain clock
    plain_whole : plain_of C (whole_of w v) ≡ whole_of w (plain_of C v)
    unfolding plain_of
    plain_whole = rw outcome_whole (by_test (running_in v))
      where
        by_test : (t : Bool)
            → cond t (after C (whole_of w v) (input_count_in C v) (outcome_in C v (input_count_in C v))) (whole_of w v)
            ≡ whole_of w (cond t (after C v (input_count_in C v) (outcome_in C v (input_count_in C v))) v)
        by_test true = after_whole (outcome_in C v (input_count_in C v))
        by_test false = refl

    done_whole : done_in C (whole_of w v) ≡ done_in C v
    unfolding done_in
    done_whole = rw outcome_whole

  -- n plain clocks
  pub plains_whole : (n : ℕ) (w v : WorldOf S) → Room w
      → plains (system_of C) n (whole_of w v) ≡ whole_of w (plains (system_of C) n v)
  unfolding plains
  plains_whole zero w v room = refl
  plains_whole (suc n) w v room = rw (plain_whole w v room) (plains_whole n w (plain_of C v) room)

  module _ (L : ChipLaws C) where
    -- the clocks done and their events
    pub trace_whole : (n : ℕ) (w v : WorldOf S) → Room w → trace (system_of C) n (whole_of w v) ≡ trace (system_of C) n v
    unfolding trace event_in
    trace_whole zero w v room = refl
    trace_whole (suc n) w v room = by_done (done_in C v) refl (trace_whole n w (plain_of C v) room)
      where
        by_done : (d : Bool) → done_in C v ≡ d
            → trace (system_of C) n (whole_of w (plain_of C v)) ≡ trace (system_of C) n (plain_of C v)
            → trace (system_of C) (suc n) (whole_of w v) ≡ trace (system_of C) (suc n) v
        by_done true e later =
            trace_done (system_of C) (lawful C L) n (whole_of w v) (done_whole w v room ∙ e)
            ∙ ap {B = List Bool} (λ l. event_in C v ∷ l) (ap (trace (system_of C) n) (plain_whole w v room) ∙ later)
            ∙ sym (trace_done (system_of C) (lawful C L) n v e)
        by_done false e later =
            trace_undone (system_of C) (lawful C L) (suc n) (whole_of w v) (done_whole w v room ∙ e)
            ∙ sym (trace_undone (system_of C) (lawful C L) (suc n) v e)

    pub count_whole : (n : ℕ) (w v : WorldOf S) → Room w
        → leap_count (system_of C) n (whole_of w v) ≡ leap_count (system_of C) n v
    unfolding leap_count
    count_whole n w v room = rw (trace_whole n w v room)
