-- Calls on a chip with its memory and lists, of any chip: document 01, "What is handed back" and "Run and leaps".
use Rattle.std.specs.Prelude.{◌≡◌, Bool, true, ◌||◌, cond, List, ◌++◌, ℕ, ◌+◌, ◌-◌, ◌≤◌, eqb, length, take, drop}
use Rattle.pin_lists.specs.PinLists.{pins_right}
use Rattle.refusals.specs.Refusals.{refusal_of}
use Rattle.leaps.specs.Chip.{ChipRules}
use Rattle.leaps.specs.World.{WorldOf, system_of}
use Rattle.leaps.specs.CallLists.{Machine}

-- the result of a call: document 01's number, the state, the leaps, the inputs read and the records written
pub record ResultOf (S : Type 0) : Type 0 where
  pub number : ℕ
  pub state : S
  pub leaps : ℕ
  pub read : ℕ
  pub written : ℕ

-- what a call hands back: its result, and the lent lists as they are left
pub record HandedOf (S : Type 0) : Type 0 where
  pub result : ResultOf S
  pub memory : List ℕ
  pub output_clocks : List ℕ
  pub output_words : List ℕ

-- 01, "a stop (6, 7) ends the list"; 02, U4, "12: halted at a write, a stop like the others": the stops by name; every
-- other number is none
abbrev pub is_stop : ℕ → Bool
is_stop number = eqb number 6 || eqb number 7 || eqb number 12

-- the stop that a number is, 0 where it is none
unfoldable pub stop_of : ℕ → ℕ
stop_of number = cond (is_stop number) number 0

module _ {S : Type 0} where
  -- the start of a call, or of a list of them: nothing is read, written or stopped
  abbrev pub call_start : S → List ℕ → List ℕ → List ℕ → List ℕ → List ℕ → WorldOf S
  call_start s memory input_clocks input_codes output_clocks output_words = record {
    state = s;
    memory = memory;
    input_clocks = input_clocks;
    input_codes = input_codes;
    output_clocks = output_clocks;
    output_words = output_words;
    read = 0;
    written = 0;
    stop = 0;
  }

  -- "6, 7 state and lists as reached", and so 12; "Number 0: all n clocks done."
  abbrev pub handed_back_of : ℕ → WorldOf S → HandedOf S
  handed_back_of leaps w = record {
    result = record { number = w.stop; state = w.state; leaps = leaps; read = w.read; written = w.written };
    memory = w.memory;
    output_clocks = w.output_clocks;
    output_words = w.output_words;
  }

  -- "1 to 5 give back the state given, everything unchanged"; "with nothing read or counted"
  abbrev pub refused_with : ℕ → S → ResultOf S
  refused_with number s = record { number = number; state = s; leaps = 0; read = 0; written = 0 }

  -- so a refused call hands back the lists as they were
  abbrev pub refused_handed : ℕ → WorldOf S → HandedOf S
  refused_handed number w = record {
    result = refused_with number w.state;
    memory = w.memory;
    output_clocks = w.output_clocks;
    output_words = w.output_words;
  }

  -- what the next call gets: state and memory as they are, the rest of the inputs, the free output space
  abbrev pub lent_of : WorldOf S → WorldOf S
  lent_of w =
      call_start w.state w.memory w.input_clocks w.input_codes
      (drop w.written w.output_clocks) (drop w.written w.output_words)

  -- the world once a call has handed back what it got of `w`: the rest of the inputs from the first unread entry on,
  -- its records behind those already written, and read and written summed
  unfoldable pub after_call_of : WorldOf S → HandedOf S → WorldOf S
  after_call_of w h = record {
    state = h.result.state;
    memory = h.memory;
    input_clocks = drop h.result.read w.input_clocks;
    input_codes = drop h.result.read w.input_codes;
    output_clocks = take w.written w.output_clocks ++ h.output_clocks;
    output_words = take w.written w.output_words ++ h.output_words;
    read = w.read + h.result.read;
    written = w.written + h.result.written;
    stop = stop_of h.result.number;
  }

  -- the result of a call that is not refused, of plain clocks from `w` to `v`: the stop, the state, document 01's
  -- leaps, the inputs read and the records written
  abbrev pub result_by_of : ℕ → WorldOf S → WorldOf S → ResultOf S
  result_by_of leaps w v = record {
    number = v.stop;
    state = v.state;
    leaps = leaps;
    read = v.read - w.read;
    written = v.written - w.written;
  }

-- the records written are within the output lists; a start has none written
pub record Room {S : Type 0} (w : WorldOf S) : Type 0 where
  pub output_clocks : w.written ≤ length w.output_clocks
  pub output_words : w.written ≤ length w.output_words

module _ {S : Type 0} (C : ChipRules S) where
  -- the number of the refusal of a call for n clocks, or 0
  abbrev pub refusal_in : ℕ → WorldOf S → ℕ
  refusal_in n w =
      refusal_of C.limits (C.well_formed w.state) (C.clock w.state) (length w.memory) w.input_clocks
      w.input_codes
      (length w.output_clocks) (length w.output_words) n

  abbrev pub refused_call : ℕ → WorldOf S → HandedOf S
  refused_call n w = refused_handed (refusal_in n w) w

  -- the chip, its memory and its lists, as a machine that calls move
  abbrev pub machine_of : Machine (WorldOf S) (HandedOf S) (ResultOf S)
  machine_of = record {
    system = system_of C;
    Room = Room;
    accepts = λ (n : ℕ) (w : WorldOf S). eqb (refusal_in n w) 0;
    handed_back = handed_back_of;
    refused = refused_call;
    result_in = λ (h : HandedOf S). h.result;
    lent = lent_of;
    after_call = after_call_of;
    result_by = result_by_of;
    refused_by = λ (n : ℕ) (w : WorldOf S). refused_with (refusal_in n w) w.state;
  }

-- What a call that is not refused starts from, and every plain clock keeps: document 01's rules for state, memory and
-- lists.
pub record Fit {S : Type 0} (C : ChipRules S) (w : WorldOf S) : Type 0 where
  pub memory : length w.memory ≡ C.limits.memory  -- number 1: of the chip's length
  pub state : C.well_formed w.state ≡ true  -- "Well-formed: every field is within its range here."
  pub pins : pins_right C.limits.pin (C.clock w.state) w.input_clocks w.input_codes
      ≡ true  -- "Pin lists", of the rest; so both are of equal length
  pub outputs : length w.output_clocks ≡ length w.output_words  -- "two lent lists", of equal length
  pub written : w.written ≤ length w.output_clocks  -- the records written are within them
