-- A tape checked, and its bytes in memory (document 01, "Tape" and "What is handed back").
use Rattle.std.specs.Prelude.{◌&&◌, cond, List, [], ◌∷◌, ℕ, ◌+◌, ltb, eqb, length, set, Result, Ok, Err}
use Rattle.bits.specs.Bits.{one_where}
use Rattle.memory.specs.Memory.{memory_length, register_end}
use Rattle.page_sums.specs.PageSums.{page_list_refused}
use Rattle.tape.specs.declared.LoadError.{LoadError}
use Rattle.tape.specs.declared.LoadFault.{LoadFault}
use Rattle.tape.specs.declared.LoadFault.TheVariants.{MemoryLength, Record, LastRecord, PageList}
use Rattle.tape_records.specs.Records as records
use Rattle.tape_records.specs.Digits.{bytes_of}
use Rattle.tape_records.specs.Records.{mark, byte_count_of, address_of, fault_of, data_of}

-- a number of "What is handed back", and a place: the index of a record's `;`, the tape's length for a missing last
-- record, the place past the last record of an accepted tape, or 0 with number 1
pub record LoadResult : Type 0 where
  pub number : ℕ
  pub place : ℕ

abbrev pub load_result : ℕ → ℕ → LoadResult
load_result n p = record { number = n; place = p }

-- the numbers of the faults of a load as the code tells them apart, and what the code's answer says
abbrev pub fault_number : LoadFault → ℕ
fault_number MemoryLength = 1
fault_number (Record fault) = records.fault_number fault
fault_number LastRecord = 10
fault_number PageList = 13

abbrev pub told : Result ℕ LoadError → LoadResult
told (Ok place) = load_result 0 place
told (Err error) = load_result (fault_number error.fault) error.place

-- "Count 00 ends the tape, its address field being the number of records, itself included": the n-th record, which is
-- the last and stands at `place`. Its 11 characters are passed; a wrong count is 10.
unfoldable pub ended_by : ℕ → ℕ → List ℕ → LoadResult
ended_by place n text = cond (eqb (address_of text) n) (load_result 0 (place + 11)) (load_result 10 place)

-- the n-th record, whose `;` stands at `place`: its own fault first; where it is good and not the last, the tape goes
-- on
unfoldable pub record_by : ℕ → ℕ → List ℕ → LoadResult → LoadResult
record_by place n text goes_on =
    cond (eqb (fault_of text) 0) (cond (eqb (byte_count_of text) 0) (ended_by place n text) goes_on)
    (load_result (fault_of text) place)

-- the rest of a tape from `place` on, behind `seen` records: each `;` begins a record, "between records anything but
-- `;` is skipped", and the earliest faulty record decides. A good record's digits hold no `;`, so the search for the
-- next one may start right behind its own (`check_past` of proofs/Laws.antt). A tape that is over lacks its last
-- record.
unfoldable pub check_from : ℕ → ℕ → List ℕ → LoadResult
check_from place seen [] = load_result 10 place
check_from place seen (c ∷ text) =
    let n = seen + one_where (eqb c mark) in
    let goes_on = check_from (place + 1) n text in
    cond (eqb c mark) (record_by place n text goes_on) goes_on

abbrev pub check_of : List ℕ → LoadResult
check_of tape = check_from 0 0 tape

-- bytes from an address onward; those below `least` are dropped
unfoldable pub put_from : ℕ → ℕ → List ℕ → List ℕ → List ℕ
put_from least address [] memory = memory
put_from least address (b ∷ bytes) memory =
    put_from least (address + 1) bytes (cond (ltb address least) memory (set memory address b))

-- "Bytes land from the record's address onward; those below 40h are dropped"
unfoldable pub landed : List ℕ → List ℕ → List ℕ
landed text memory = put_from register_end (address_of text) (bytes_of (data_of text)) memory

-- the records of an accepted tape land in their order, so that later ones overwrite earlier ones; count 00 ends the
-- tape, and "what follows is ignored"
unfoldable pub landed_all : List ℕ → List ℕ → List ℕ
landed_all [] memory = memory
landed_all (c ∷ text) memory =
    cond (eqb c mark && eqb (byte_count_of text) 0) memory
    (landed_all text (cond (eqb c mark) (landed text memory) memory))

-- what a load hands back, and memory after it
pub record Loaded : Type 0 where
  pub result : LoadResult
  pub memory : List ℕ

abbrev pub loaded : LoadResult → List ℕ → Loaded
loaded r m = record { result = r; memory = m }

-- "on a tape 1 comes first, with place 0"; 8 to 10 leave memory unchanged
unfoldable pub load_of : List ℕ → List ℕ → Loaded
load_of tape memory =
    cond (eqb (length memory) memory_length)
    (loaded (check_of tape) (cond (eqb (check_of tape).number 0) (landed_all tape memory) memory))
    (loaded (load_result 1 0) memory)

-- 02, U7: a load with page sums. 13 comes behind 1 and before any record, with place 0; unless it refuses, it is a
-- load. The sums go by the memory (`sums_after`).
unfoldable pub load_with_sums_of : List ℕ → List ℕ → List ℕ → Loaded
load_with_sums_of tape memory sums =
    cond (page_list_refused (length memory) (length sums)) (loaded (load_result 13 0) memory) (load_of tape memory)
