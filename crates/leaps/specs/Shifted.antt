-- The shifted clock, of any chip: worlds that are alike but for their clocks, and what calls on them hand back. The
-- second of a pair is k clocks later than the first.
use Rattle.std.specs.Prelude.{◌≡◌, Bool, true, not, ◌&&◌, List, [], ◌∷◌, map, ℕ, ◌+◌, eqb, length, take}
use Rattle.leaps.specs.Chip.{ChipRules, ClockEnd, ClockOutcome, stopped, ended}
use Rattle.leaps.specs.World.{WorldOf}
use Rattle.leaps.specs.CallLists.{Listed}
use Rattle.leaps.specs.Calls.{ResultOf, HandedOf, refusal_in}

-- a list of clocks, each k later
abbrev pub shifted_clocks : ℕ → List ℕ → List ℕ
shifted_clocks k clocks = map (λ (t : ℕ). t + k) clocks

-- The records written are alike but for their clocks, and there is as much output space. In entries that are not
-- written anything may stand.
pub record ShiftedRecords (k written : ℕ) (times words times' words' : List ℕ) : Type 0 where
  pub clock_space : length times' ≡ length times
  pub word_space : length words' ≡ length words
  pub record_clocks : take written times' ≡ shifted_clocks k (take written times)
  pub record_words : take written words' ≡ take written words

-- `shift k s` is the state `s` with its clock k later
module _ {S : Type 0} (shift : ℕ → S → S) (k : ℕ) where
  -- what a clock comes to
  abbrev pub shifted_end : ClockEnd S → ClockEnd S
  shifted_end d = record {
    state = shift k d.state;
    memory = d.memory;
    differs = d.differs;
    word = d.word;
    stop = d.stop;
  }

  abbrev pub shifted_outcome : ClockOutcome S → ClockOutcome S
  shifted_outcome (stopped number) = stopped number
  shifted_outcome (ended d) = ended (shifted_end d)

  -- the result of a call: number, leaps, inputs read and records written are the same
  abbrev pub shifted_result : ResultOf S → ResultOf S
  shifted_result r = record {
    number = r.number;
    state = shift k r.state;
    leaps = r.leaps;
    read = r.read;
    written = r.written;
  }

  -- `v` is `w`, k clocks later: state, inputs and records
  pub record ShiftedWorld (w v : WorldOf S) : Type 0 where
    pub state : v.state ≡ shift k w.state
    pub memory : v.memory ≡ w.memory
    pub input_clocks : v.input_clocks ≡ shifted_clocks k w.input_clocks
    pub input_codes : v.input_codes ≡ w.input_codes
    pub records : ShiftedRecords k w.written w.output_clocks w.output_words v.output_clocks v.output_words
    pub read : v.read ≡ w.read
    pub written : v.written ≡ w.written
    pub stop : v.stop ≡ w.stop

  -- `g` is what a call hands back that hands back `h`, k clocks later
  pub record ShiftedHanded (h g : HandedOf S) : Type 0 where
    pub result : g.result ≡ shifted_result h.result
    pub memory : g.memory ≡ h.memory
    pub records : ShiftedRecords k h.result.written h.output_clocks h.output_words
        g.output_clocks g.output_words

  -- `m` is what a list of calls leads to that leads to `l`, k clocks later
  pub record ShiftedListed (l m : Listed (WorldOf S) (ResultOf S)) : Type 0 where
    pub world : ShiftedWorld l.world m.world
    pub results : m.results ≡ map shifted_result l.results

-- 01, What is handed back: "4 | clock + n above 4,294,967,295", the one number that goes by the clock's value
abbrev pub clock_refusal : ℕ
clock_refusal = 4

-- a call for n clocks is refused with 4 in both worlds or in neither: in the earlier where it is in the later
abbrev pub RefusedAlike : {S : Type 0} → ChipRules S → ℕ → WorldOf S → WorldOf S → Type 0
RefusedAlike C n w v = refusal_in C n v ≡ clock_refusal → refusal_in C n w ≡ clock_refusal

-- no call of a list is refused with 4
unfoldable pub clocks_fit : {S : Type 0} → List (ResultOf S) → Bool
clocks_fit [] = true
clocks_fit (r ∷ rs) = not (eqb r.number clock_refusal) && clocks_fit rs
