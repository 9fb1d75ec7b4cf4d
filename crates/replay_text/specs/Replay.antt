-- What the program `replay` prints of a tape: document 01, "Tape": "The program `replay` reads a tape ... into a memory
-- of zeros and runs 100 clocks from fresh, no inputs, 100 free records. A refused tape prints only the end line, with 0
-- clocks." Document 02, U8: "`replay` .. now give[s] RES high on clock 1".
use Rattle.std.specs.Prelude.{cond, List, [], ◌∷◌, ℕ, eqb, take, replicate, None}
use Rattle.memory.specs.Memory.{memory_length}
use Rattle.r6501q_state.specs.State.{fresh}
use Rattle.r6501q_state.specs.Inputs.{res_high}
use Rattle.leaps.specs.Leaps.{plains}
use Rattle.leaps.specs.Calls.{call_start}
use Rattle.r6501q_chip.specs.R6501q.{World, system}
use Rattle.tape.specs.Tapes.{load_of}
use Rattle.record_text.specs.Lines.{end_line, outcome_lines}

-- "a tape, the first 16,384 characters of standard input"
abbrev pub tape_length : ℕ
tape_length = 16384

-- "a memory of zeros"
unfoldable pub zero_memory : List ℕ
zero_memory = replicate memory_length 0

-- "100 free records", a list of clocks or of words
unfoldable pub free_records : List ℕ
free_records = replicate 100 0

-- "from fresh, .., 100 free records", on a memory into which a tape is loaded; the one input is RES high on clock 1
abbrev pub replay_start : List ℕ → World
replay_start memory = call_start fresh memory (1 ∷ []) (res_high ∷ []) free_records free_records

-- what is printed of a run that ends so: the records written, the clocks done and the stop, or 0
abbrev pub lines_of : World → List ℕ
lines_of w =
    outcome_lines (take w.written w.output_clocks) (take w.written w.output_words) w.state.clock
    w.stop

-- "runs 100 clocks", stated by plain clocks, with no halt address
unfoldable pub ran_of : List ℕ → List ℕ
ran_of memory = lines_of (plains (system None) 100 (replay_start memory))

-- the text for a tape
unfoldable pub replay_of : List ℕ → List ℕ
replay_of tape =
    let load = load_of tape zero_memory in
    cond (eqb load.result.number 0) (ran_of load.memory) (end_line 0 load.result.number)
