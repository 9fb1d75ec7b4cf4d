-- All that a clock works on, of any chip: document 01, "Run and leaps", plain clocks.
use Rattle.std.specs.Prelude.{Bool, true, false, cond, List, ℕ, ◌+◌, ltb, eqb, length, take, drop, set}
use Rattle.bits.specs.Bits.{one_where}
use Rattle.pin_lists.specs.PinLists.{input_count}
use Rattle.leaps.specs.Leaps.{System}
use Rattle.leaps.specs.Chip.{ChipRules, ClockEnd, ClockOutcome, stopped, ended}

-- State and memory; the rest of the input list from its first unread entry; the whole output lists; how many inputs are
-- read and records written; the stop, 0 where nothing stopped.
pub record WorldOf (S : Type 0) : Type 0 where
  pub state : S
  pub memory : List ℕ
  pub input_clocks : List ℕ
  pub input_codes : List ℕ
  pub output_clocks : List ℕ
  pub output_words : List ℕ
  pub read : ℕ
  pub written : ℕ
  pub stop : ℕ

-- "its record, if any, takes the first free entry"
unfoldable pub put_record : Bool → ℕ → ℕ → List ℕ → List ℕ
put_record differs at value list = cond differs (set list at value) list

module _ {S : Type 0} where
  -- "Where its clock meets 6, else 7, that is the stop and nothing else changes."
  abbrev pub stopped_at : ℕ → WorldOf S → WorldOf S
  stopped_at number w = record {
    state = w.state;
    memory = w.memory;
    input_clocks = w.input_clocks;
    input_codes = w.input_codes;
    output_clocks = w.output_clocks;
    output_words = w.output_words;
    read = w.read;
    written = w.written;
    stop = number;
  }

  -- nothing has stopped
  abbrev pub running_in : WorldOf S → Bool
  running_in w = eqb w.stop 0

  -- "A stopped clock isn't done": what a clock comes to is an end, not a stop
  abbrev pub is_done : ClockOutcome S → Bool
  is_done (stopped number) = false
  is_done (ended d) = true

module _ {S : Type 0} (C : ChipRules S) where
  -- "Otherwise steps 1 to 5 happen once: inputs of its clock are read; its record, if any, takes the first free entry."
  abbrev pub moved_to : ClockEnd S → ℕ → WorldOf S → WorldOf S
  moved_to d inputs w = record {
    state = d.state;
    memory = d.memory;
    input_clocks = drop inputs w.input_clocks;
    input_codes = drop inputs w.input_codes;
    output_clocks = put_record d.differs w.written (C.clock d.state) w.output_clocks;
    output_words = put_record d.differs w.written d.word w.output_words;
    read = w.read + inputs;
    written = w.written + one_where d.differs;
    stop = d.stop;
  }

  -- the world after a clock that has `inputs` inputs
  abbrev pub after : WorldOf S → ℕ → ClockOutcome S → WorldOf S
  after w inputs (stopped number) = stopped_at number w
  after w inputs (ended d) = moved_to d inputs w

  -- the inputs of the next clock
  abbrev pub input_count_in : WorldOf S → ℕ
  input_count_in w = input_count (C.clock w.state + 1) w.input_clocks

  -- what the next clock comes to
  abbrev pub outcome_in : WorldOf S → ℕ → ClockOutcome S
  outcome_in w inputs =
      C.outcome w.state (take inputs w.input_codes) w.memory (ltb w.written (length w.output_clocks))

  -- one plain clock; "Each, after a stop, does nothing."
  unfoldable pub plain_of : WorldOf S → WorldOf S
  plain_of w = cond (running_in w) (after w (input_count_in w) (outcome_in w (input_count_in w))) w

  -- the next clock is done
  unfoldable pub done_in : WorldOf S → Bool
  done_in w = cond (running_in w) (is_done (outcome_in w (input_count_in w))) false

  -- the next clock is an event clock
  unfoldable pub event_in : WorldOf S → Bool
  event_in w = C.event w.state (take (input_count_in w) w.input_codes)

  -- "the gap passed": only the state changes
  abbrev pub pass_in : ℕ → WorldOf S → WorldOf S
  pass_in g w = record {
    state = C.pass g w.state;
    memory = w.memory;
    input_clocks = w.input_clocks;
    input_codes = w.input_codes;
    output_clocks = w.output_clocks;
    output_words = w.output_words;
    read = w.read;
    written = w.written;
    stop = w.stop;
  }

  -- the chip, its memory and its lists, as a machine that leaps
  abbrev pub system_of : System (WorldOf S)
  system_of = record {
    plain = plain_of;
    running = running_in;
    done = done_in;
    event = event_in;
    clock = λ (w : WorldOf S). C.clock w.state;
    gap = λ (n : ℕ) (w : WorldOf S). C.gap n w.state w.input_clocks;
    pass = pass_in;
  }
