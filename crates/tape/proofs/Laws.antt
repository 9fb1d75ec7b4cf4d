-- What follows from the definitions for every tape and memory: what a load leaves alone, and that a record's own digits
-- may be passed in the search for the next record.
use mathlib.Core.Path.{◌≡◌, refl, ap, ◌∙◌}
use mathlib.Core.Bool.{Bool, true, false, ◌&&◌, cond}
use mathlib.Core.List.{List, [], ◌∷◌}
use Prim.Native.Nat.{ℕ, zero, suc, ◌+◌, ◌≤◌}
use native.Mathlib.Omega.{arith}
use native.Mathlib.Nat.{add-zero}
use borrow.Author.Tests.{eq-eqb, ne_eqb, eqb-true}
use lib.Dec.{ltb, eqb}
use lib.ListN.{length, take, drop, set}
use Rattle.bits.specs.Lists.{all_of}
use Rattle.bits.proofs.Cond.{cond_both}
use Rattle.std.specs.Prelude.{Some}
use Rattle.tape.specs.declared.LoadFault.{LoadFault}
use Rattle.tape.specs.declared.LoadFault.TheVariants.{MemoryLength, Record, LastRecord, PageList}
use Rattle.tape_records.specs.Digits.{is_digit, bytes_of}
use Rattle.tape_records.specs.Records.{mark, record_length, byte_count_of, address_of, fault_of, data_of}
use Rattle.memory.specs.Memory.{memory_length, register_end, with_untouched}
use Rattle.memory.proofs.Untouched.{untouched_set, untouched_length}
use Rattle.tape.specs.Tapes.{LoadResult, load_result, fault_number, ended_by, record_by, check_from, check_of, put_from, landed, landed_all}
use Rattle.tape.specs.Tapes.{Loaded, loaded, load_of}
use Rattle.tape_records.proofs.DigitLaws.{and_true}
use Rattle.tape_records.proofs.RecordLaws.{good, some_number}
use Rattle.tape.proofs.MemoryLaws.{length_puts, take_puts}

-- what each landing keeps, the store of a tape keeps
landed_all_keeps : (P : List ℕ → Type 0) → ((text memory : List ℕ) → P memory → P (landed text memory))
    → (tape memory : List ℕ) → P memory → P (landed_all tape memory)
unfolding landed_all
landed_all_keeps P k [] memory p = p
landed_all_keeps P k (c ∷ text) memory p =
    cond_both P (eqb c mark && eqb (byte_count_of text) 0) _ _ (λ _. p)
    (λ _. landed_all_keeps P k text _ (cond_both P (eqb c mark) _ _ (λ _. k text memory p) (λ _. p)))

-- no fault's number is 0
pub some_fault : (fault : LoadFault) → fault_number fault ≡ 0 → ⊥
some_fault MemoryLength z = omega arith
some_fault (Record fault) z = some_number (Some fault) refl z
some_fault LastRecord z = omega arith
some_fault PageList z = omega arith

module _ (tape memory : List ℕ) where
  load_keeps : (P : List ℕ → Type 0) → ((text m : List ℕ) → P m → P (landed text m)) → P memory
      → P (load_of tape memory).memory
  unfolding load_of
  load_keeps P k p =
      cond_both (λ (o : Loaded). P o.memory) (eqb (length memory) memory_length) _ _
      (λ _. cond_both P (eqb (check_of tape).number 0) _ _ (λ _. landed_all_keeps P k tape memory p) (λ _. p))
      (λ _. p)

  -- memory keeps its length
  pub load_length : length (load_of tape memory).memory ≡ length memory
  unfolding landed
  load_length =
      load_keeps (λ m. length m ≡ length memory)
      (λ text m e. length_puts register_end (address_of text) (bytes_of (data_of text)) m ∙ e) refl

  -- the registers' bytes, 0 to 3Fh, are never touched
  pub load_registers : take register_end (load_of tape memory).memory ≡ take register_end memory
  unfolding landed
  load_registers =
      load_keeps (λ m. take register_end m ≡ take register_end memory)
      (λ text m e. take_puts register_end (address_of text) (bytes_of (data_of text)) m ∙ e) refl

  -- a memory of another length is 1, at place 0, whatever the tape
  pub load_other_length : (length memory ≡ memory_length → ⊥) → load_of tape memory ≡ loaded (load_result 1 0) memory
  unfolding load_of
  load_other_length h = rw (ne_eqb (length memory) memory_length h)

  module _ (right : length memory ≡ memory_length) where
    -- a refused tape leaves memory unchanged
    pub load_refused : ((check_of tape).number ≡ 0 → ⊥) → load_of tape memory ≡ loaded (check_of tape) memory
    unfolding load_of
    load_refused h = rw (eq-eqb (length memory) memory_length right, ne_eqb (check_of tape).number 0 h)

    pub load_accepted : (place : ℕ) → check_of tape ≡ load_result 0 place
        → load_of tape memory ≡ loaded (load_result 0 place) (landed_all tape memory)
    unfolding load_of
    load_accepted place e = rw (eq-eqb (length memory) memory_length right, e)

-- a digit is no `;`
digit_unmarked : (c : ℕ) → is_digit c ≡ true → eqb c mark ≡ false
unfolding is_digit
digit_unmarked c h = ne_eqb c mark (λ e. let f = rw e at h in let z : ◌≡◌ {A = ℕ} 0 1 = cc in omega arith)

-- digits are skipped, by the check and by the store
digits_stored : (n : ℕ) (text : List ℕ) → n ≤ length text → all_of is_digit (take n text) ≡ true
    → (memory : List ℕ) → landed_all text memory ≡ landed_all (drop n text) memory
unfolding landed_all
digits_stored zero text h d memory = refl
digits_stored (suc n) [] h d memory = absurd (omega arith)
digits_stored (suc n) (c ∷ text) h d memory =
    let b = and_true (is_digit c) (all_of is_digit (take n text)) d in
    rw (digit_unmarked c b.0) (digits_stored n text (omega arith) b.1 memory)

digits_past : (n : ℕ) (text : List ℕ) → n ≤ length text → all_of is_digit (take n text) ≡ true
    → (place seen : ℕ) → check_from place seen text ≡ check_from (place + n) seen (drop n text)
unfolding check_from
digits_past zero text h d place seen = rw add-zero
digits_past (suc n) [] h d place seen = absurd (omega arith)
digits_past (suc n) (c ∷ text) h d place seen =
    let b = and_true (is_digit c) (all_of is_digit (take n text)) d in
    let e : place + suc n ≡ place + 1 + n = omega arith in
    rw (digit_unmarked c b.0, add-zero, e) (digits_past n text (omega arith) b.1 (place + 1) seen)

-- the tape goes on past a record's own digits: the search for the next `;` may start there or right behind this one
pub check_past : (place n : ℕ) (text : List ℕ)
    → record_by place n text (check_from (place + 1) n text)
    ≡ record_by place n text
    (check_from (place + 1 + record_length (byte_count_of text)) n (drop (record_length (byte_count_of text)) text))
unfolding record_by
check_past place n text = by_fault (eqb (fault_of text) 0) refl
  where
    next : LoadResult
    next = check_from (place + 1 + record_length (byte_count_of text)) n (drop (record_length (byte_count_of text)) text)

    by_fault : (t : Bool) → eqb (fault_of text) 0 ≡ t
        → record_by place n text (check_from (place + 1) n text) ≡ record_by place n text next
    by_fault true e =
        let g = good text (eqb-true (fault_of text) 0 e) in
        ap (record_by place n text)
        (digits_past (record_length (byte_count_of text)) text g.whole g.digits (place + 1) n)
    by_fault false e = rw e

pub store_past : (text memory : List ℕ) → fault_of text ≡ 0
    → landed_all text memory ≡ landed_all (drop (record_length (byte_count_of text)) text) memory
store_past text memory e =
    let g = good text e in digits_stored (record_length (byte_count_of text)) text g.whole g.digits memory

-- ---- 0 to 3Fh are not read either

module _ (first : List ℕ) (whole : length first ≡ register_end) where
  puts_untouched : (address : ℕ) (bytes m : List ℕ)
      → put_from register_end address bytes (with_untouched first m)
      ≡ with_untouched first (put_from register_end address bytes m)
  unfolding put_from
  puts_untouched address [] m = refl
  puts_untouched address (b ∷ bytes) m = by_place (ltb address register_end) refl (puts_untouched (address + 1) bytes)
    where
      by_place : (t : Bool) → ltb address register_end ≡ t
          → ((m : List ℕ)
          → put_from register_end (address + 1) bytes (with_untouched first m)
          ≡ with_untouched first (put_from register_end (address + 1) bytes m))
          → put_from register_end (address + 1) bytes
          (cond t (with_untouched first m) (set (with_untouched first m) address b))
          ≡ with_untouched first (put_from register_end (address + 1) bytes (cond t m (set m address b)))
      by_place true e later = later m
      by_place false e later =
          ap (put_from register_end (address + 1) bytes) (untouched_set first m address b whole e) ∙ later
          (set m address b)

  landed_untouched : (text m : List ℕ) → landed text (with_untouched first m) ≡ with_untouched first (landed text m)
  unfolding landed
  landed_untouched text m = puts_untouched (address_of text) (bytes_of (data_of text)) m

  landed_all_untouched : (tape m : List ℕ)
      → landed_all tape (with_untouched first m) ≡ with_untouched first (landed_all tape m)
  unfolding landed_all
  landed_all_untouched [] m = refl
  landed_all_untouched (c ∷ text) m = by_mark (eqb c mark) (eqb (byte_count_of text) 0) (landed_all_untouched text)
    where
      by_mark : (t z : Bool)
          → ((m : List ℕ) → landed_all text (with_untouched first m) ≡ with_untouched first (landed_all text m))
          → cond (t && z) (with_untouched first m)
          (landed_all text (cond t (landed text (with_untouched first m)) (with_untouched first m)))
          ≡ with_untouched first (cond (t && z) m (landed_all text (cond t (landed text m) m)))
      by_mark true true later = refl
      by_mark true false later = ap (landed_all text) (landed_untouched text m) ∙ later (landed text m)
      by_mark false z later = later m

  -- 01, Machine state: memory's "bytes at 0 to 3Fh, the registers, are never touched". With other bytes there a load
  -- gives the same number and place, the same bytes from 40h on, and those bytes back.
  pub load_untouched : (tape m : List ℕ) → register_end ≤ length m
      → load_of tape (with_untouched first m) ≡ loaded (load_of tape m).result
      (with_untouched first (load_of tape m).memory)
  unfolding load_of
  load_untouched tape m h =
      rw (untouched_length first m whole h) (by_tests (eqb (length m) memory_length) (eqb (check_of tape).number 0))
    where
      by_tests : (t z : Bool)
          → cond t (loaded (check_of tape) (cond z (landed_all tape (with_untouched first m)) (with_untouched first m)))
          (loaded (load_result 1 0) (with_untouched first m))
          ≡ loaded (cond t (loaded (check_of tape) (cond z (landed_all tape m) m)) (loaded (load_result 1 0) m)).result
          (with_untouched first
          (cond t (loaded (check_of tape) (cond z (landed_all tape m) m)) (loaded (load_result 1 0) m)).memory)
      by_tests true true = ap (loaded (check_of tape)) (landed_all_untouched tape m)
      by_tests true false = refl
      by_tests false z = refl

-- ---- 01, Tape: a tape is gone through record by record

-- "Between records anything but `;` is skipped."
module _ (c : ℕ) (text : List ℕ) (other : c ≡ mark → ⊥) where
  pub skip_checked : (place seen : ℕ) → check_from place seen (c ∷ text) ≡ check_from (place + 1) seen text
  unfolding check_from
  skip_checked place seen = rw (ne_eqb c mark other, add-zero)

  pub skip_stored : (m : List ℕ) → landed_all (c ∷ text) m ≡ landed_all text m
  unfolding landed_all
  skip_stored m = rw (ne_eqb c mark other)

-- a record at `place`, behind `seen` others: its fault ends the tape, "the record's place"
pub faulty_record : (place seen : ℕ) (text : List ℕ) → (fault_of text ≡ 0 → ⊥)
    → check_from place seen (mark ∷ text) ≡ load_result (fault_of text) place
unfolding check_from record_by
faulty_record place seen text f = rw (ne_eqb (fault_of text) 0 f)

module _ (text : List ℕ) (sound : fault_of text ≡ 0) where
  -- "Count 00 ends the tape", and "what follows is ignored"
  pub last_checked : (place seen : ℕ) → byte_count_of text ≡ 0
      → check_from place seen (mark ∷ text) ≡ ended_by place (seen + 1) text
  unfolding check_from record_by
  last_checked place seen z = rw (sound, z)

  pub last_stored : (m : List ℕ) → byte_count_of text ≡ 0 → landed_all (mark ∷ text) m ≡ m
  unfolding landed_all
  last_stored m z = rw z

  module _ (more : byte_count_of text ≡ 0 → ⊥) where
    -- a record that is good and not the last: one record more is seen, its bytes land, and the tape goes on behind its
    -- digits
    pub next_checked : (place seen : ℕ) → check_from place seen (mark ∷ text)
        ≡ check_from (place + 1 + record_length (byte_count_of text)) (seen + 1)
        (drop (record_length (byte_count_of text)) text)
    unfolding check_from record_by
    next_checked place seen =
        let g = good text sound in
        rw (sound, ne_eqb (byte_count_of text) 0 more)
        (digits_past (record_length (byte_count_of text)) text g.whole g.digits (place + 1) (seen + 1))

    pub next_stored : (m : List ℕ)
        → landed_all (mark ∷ text) m ≡ landed_all (drop (record_length (byte_count_of text)) text) (landed text m)
    unfolding landed_all
    next_stored m = rw (ne_eqb (byte_count_of text) 0 more) (store_past text (landed text m) sound)
