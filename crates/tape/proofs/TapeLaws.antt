-- Laws of the two walks along a tape, the check and the store: one step of each, over what the code has in hand.
use mathlib.Core.Path.{◌≡◌, refl, ap, sym, ◌∙◌}
use mathlib.Core.Bool.{◌&&◌, cond}
use mathlib.Core.List.{List}
use Prim.Native.Nat.{ℕ, ◌+◌, ◌-◌, ◌*◌, ◌≤◌, ◌<◌}
use native.Mathlib.Omega.{arith}
use native.Mathlib.Nat.{add-zero}
use native.Mathlib.Numerals.{add-one}
use borrow.Author.Tests.{eq-eqb, ne_eqb}
use lib.Dec.{eqb}
use lib.ListN.{length, take, drop, get_or, length-drop, drop_of_length-le}
use lib.Seq.{drop-cons, take_all}
use Rattle.std.specs.Prelude.{Some}
use Rattle.tape_records.specs.declared.record.Fault.{Fault}
use Rattle.tape_records.specs.Digits.{bytes_of}
use Rattle.bits.specs.Bits.{one_where}
use Rattle.bits.proofs.Cond.{cond_both}
use Rattle.tape_records.specs.Records.{mark, byte_count_of, address_of, fault_number, fault_of, data_of, data_at}
use Rattle.memory.specs.Memory.{memory_length, register_end}
use Rattle.tape.specs.Tapes.{LoadResult, load_result, ended_by, record_by, check_from, put_from, landed, landed_all}
use Rattle.tape_records.proofs.RecordLaws.{address_most, data_room, some_number}

-- a part to the end, as it is lent
pub to_end : (l : List ℕ) (k : ℕ) → take (length l - k) (drop k l) ≡ drop k l
to_end l k = take_all (length l - k) (drop k l) (omega (arith, length-drop k l))

module _ (tape : List ℕ) (place : ℕ) where
  abbrev text : List ℕ
  text = drop (place + 1) tape

  abbrev lent : List ℕ
  lent = take (length tape - (place + 1)) (drop (place + 1) tape)

  pub check_end : (seen : ℕ) → length tape ≤ place → check_from place seen (drop place tape) ≡ load_result 10 place
  unfolding check_from
  check_end seen h = rw (drop_of_length-le tape h)

  pub landed_all_end : (memory : List ℕ) → length tape ≤ place → landed_all (drop place tape) memory ≡ memory
  unfolding landed_all
  landed_all_end memory h = rw (drop_of_length-le tape h)

  module _ (here : place < length tape) where
    check_next : (seen : ℕ) → check_from place seen (drop place tape)
        ≡ cond (eqb (get_or tape place 0) mark)
        (record_by place (seen + one_where (eqb (get_or tape place 0) mark)) text
        (check_from (place + 1) (seen + one_where (eqb (get_or tape place 0) mark)) text))
        (check_from (place + 1) (seen + one_where (eqb (get_or tape place 0) mark)) text)
    unfolding check_from
    check_next seen = rw (drop-cons tape place 0 here, add-one place)

    landed_all_next : (memory : List ℕ) → landed_all (drop place tape) memory
        ≡ cond (eqb (get_or tape place 0) mark && eqb (byte_count_of text) 0) memory
        (landed_all text (cond (eqb (get_or tape place 0) mark) (landed text memory) memory))
    unfolding landed_all
    landed_all_next memory = rw (drop-cons tape place 0 here, add-one place)

    -- anything but `;` is skipped
    module _ (other : get_or tape place 0 ≡ mark → ⊥) where
      pub check_skip : (seen : ℕ) → check_from place seen (drop place tape) ≡ check_from (place + 1) seen text
      check_skip seen = check_next seen ∙ rw (ne_eqb (get_or tape place 0) mark other, add-zero)

      pub landed_all_skip : (memory : List ℕ) → landed_all (drop place tape) memory ≡ landed_all text memory
      landed_all_skip memory = landed_all_next memory ∙ rw (ne_eqb (get_or tape place 0) mark other)

    -- a `;` begins a record
    module _ (marked : get_or tape place 0 ≡ mark) where
      check_record : (seen : ℕ)
          → check_from place seen (drop place tape)
          ≡ record_by place (seen + 1) text (check_from (place + 1) (seen + 1) text)
      check_record seen = check_next seen ∙ rw (eq-eqb (get_or tape place 0) mark marked)

      pub check_fault : (seen : ℕ) (fault : Fault) → fault_number fault ≡ fault_of lent
          → check_from place seen (drop place tape) ≡ load_result (fault_number fault) place
      unfolding record_by
      check_fault seen fault e =
          let g : fault_number fault ≡ fault_of text = e ∙ ap fault_of (to_end tape (place + 1)) in
          check_record seen ∙ rw (← g, ne_eqb (fault_number fault) 0 (some_number (Some fault) refl))

      module _ (seen k : ℕ) (e : 0 ≡ fault_of lent) (ek : k ≡ byte_count_of lent) where
        good_text : fault_of text ≡ 0
        good_text = ap fault_of (sym (to_end tape (place + 1))) ∙ sym e

        pub check_last : (r : LoadResult) → k ≡ 0 → r ≡ ended_by place (seen + 1) lent
            → check_from place seen (drop place tape) ≡ r
        unfolding record_by
        check_last r l er =
            let c : byte_count_of text ≡ 0 = ap byte_count_of (sym (to_end tape (place + 1))) ∙ sym ek ∙ l in
            check_record seen ∙ rw (good_text, c) (sym (er ∙ ap (ended_by place (seen + 1)) (to_end tape (place + 1))))

        pub check_on : (k ≡ 0 → ⊥) → check_from place seen (drop place tape) ≡ check_from (place + 1) (seen + 1) text
        unfolding record_by
        check_on l =
            let c : k ≡ byte_count_of text = ek ∙ ap byte_count_of (to_end tape (place + 1)) in
            check_record seen ∙ rw (good_text, ← c, ne_eqb k 0 l)

      module _ (k : ℕ) (ek : k ≡ byte_count_of lent) (memory : List ℕ) where
        landed_all_record : landed_all (drop place tape) memory
            ≡ cond (eqb k 0) memory (landed_all text (landed text memory))
        landed_all_record =
            let c : k ≡ byte_count_of text = ek ∙ ap byte_count_of (to_end tape (place + 1)) in
            landed_all_next memory ∙ rw (eq-eqb (get_or tape place 0) mark marked, ← c)

        pub landed_all_last : k ≡ 0 → landed_all (drop place tape) memory ≡ memory
        landed_all_last l = landed_all_record ∙ rw (eq-eqb k 0 l)

        pub landed_all_on : (a : ℕ) (digits m : List ℕ) → (k ≡ 0 → ⊥) → a ≡ address_of lent → digits ≡ data_at tape place
            → m ≡ put_from register_end a (bytes_of digits) memory
            → landed_all (drop place tape) memory ≡ landed_all text m
        unfolding landed data_at
        landed_all_on a digits m l ea ed em =
            let f : a ≡ address_of text = ea ∙ ap address_of (to_end tape (place + 1)) in
            let d : digits ≡ data_of text = ed ∙ rw (eq-eqb (get_or tape place 0) mark marked) in
            landed_all_record ∙ rw (ne_eqb k 0 l, em, f, d)

  -- a record's bytes have room in memory from its address on
  pub data_fits : (a : ℕ) (digits : List ℕ) → a ≡ address_of lent → digits ≡ data_at tape place
      → (a ≤ memory_length) × (length digits ≤ 2 * (memory_length - a))
  unfolding data_at
  data_fits a digits ea ed =
      let f : a ≡ address_of text = ea ∙ ap address_of (to_end tape (place + 1)) in (
        omega (arith, f, address_most text),
        rw (ed, f) (cond_both Fits (eqb (get_or tape place 0) mark) _ _ (λ _. data_room text) (λ _. omega arith)),
      )
    where
      Fits : List ℕ → Type 0
      Fits d = length d ≤ 2 * (memory_length - address_of text)
