-- Laws of one record: its bounds, and what holds of a good one.
use mathlib.Core.Path.{◌≡◌, refl, sym, ◌∙◌}
use mathlib.Core.Bool.{Bool, true, false, ◌&&◌, ◌||◌, not, false≢true}
use mathlib.Core.List.{List, []}
use Prim.Native.Nat.{ℕ, ◌+◌, ◌-◌, ◌*◌, ◌≤◌}
use native.Mathlib.Omega.{arith}
use borrow.Author.Tests.{ltb-false, leb-true, eqb-true, not-false, eq-eqb, ne_eqb}
use Rattle.std.specs.Prelude.{Option, Some, None, is_some}
use Rattle.tape_records.specs.declared.record.Fault.{Fault}
use Rattle.tape_records.specs.declared.record.Fault.TheVariants.{Malformed, CheckSum}
use lib.Dec.{ltb, leb, eqb}
use lib.ListN.{length, take, drop, length-take}
use Rattle.bits.specs.Lists.{all_of}
use Rattle.bits.proofs.Cond.{cond_both}
use Rattle.tape_records.specs.Digits.{is_digit}
use Rattle.tape_records.specs.Records.{most_bytes, head_length, record_length, byte_count_of, address_of, sum_of, check_sum_of}
use Rattle.tape_records.specs.Records.{are_digits, malformed, number_in, fault_of, data_of}
use Rattle.memory.specs.Memory.{memory_length}
use Rattle.tape_records.proofs.DigitLaws.{and_true, number_byte, number_word}

or_false : (a b : Bool) → a || b ≡ false → (a ≡ false) × (b ≡ false)
or_false true b e = absurd (let n : ◌≡◌ {A = ℕ} 0 1 = cc in omega arith)
or_false false b e = (refl, e)

-- what a record without a fault has
pub record Good (text : List ℕ) : Type 0 where
  pub whole : record_length (byte_count_of text) ≤ length text
  pub digits : all_of is_digit (take (record_length (byte_count_of text)) text) ≡ true
  pub few : byte_count_of text ≤ most_bytes
  pub room : address_of text + byte_count_of text ≤ memory_length
  pub summed : sum_of text ≡ check_sum_of text

module _ (text : List ℕ) where
  pub count_most : byte_count_of text ≤ 255
  unfolding byte_count_of
  count_most = number_byte (take 2 text) (omega (arith, length-take 2 text))

  pub address_most : address_of text ≤ 65535
  unfolding address_of
  address_most = number_word (take 4 (drop 2 text)) (omega (arith, length-take 4 (drop 2 text)))

  good_by : malformed text ≡ false → sum_of text ≡ check_sum_of text → Good text
  unfolding malformed are_digits
  good_by e s =
      let n = record_length (byte_count_of text) in
      let a = not (leb n (length text) && all_of is_digit (take n text)) in
      let b = ltb most_bytes (byte_count_of text) in
      let f = or_false (a || b) (ltb memory_length (address_of text + byte_count_of text)) e in
      let g = or_false a b f.0 in
      let d = and_true (leb n (length text)) (all_of is_digit (take n text)) (not-false _ g.0) in
      record {
        whole = leb-true n (length text) d.0;
        digits = d.1;
        few = ltb-false most_bytes (byte_count_of text) g.1;
        room = ltb-false memory_length (address_of text + byte_count_of text) f.1;
        summed = s;
      }

  pub good : fault_of text ≡ 0 → Good text
  unfolding fault_of
  good =
      cond_both Is (malformed text) _ _ (λ _ h. absurd (omega arith))
      (λ e. cond_both Is (eqb (sum_of text) (check_sum_of text)) _ _
      (λ s _. good_by e (eqb-true (sum_of text) (check_sum_of text) s)) (λ _ h. absurd (omega arith)))
    where
      Is : ℕ → Type 0
      Is n = n ≡ 0 → Good text

  -- two digits for each byte that memory has room for
  pub data_room : length (data_of text) ≤ 2 * (memory_length - address_of text)
  unfolding data_of
  data_room =
      cond_both Fits (eqb (fault_of text) 0) _ _
      (λ e. let g = good (eqb-true (fault_of text) 0 e) in
      omega (arith, g.room, length-take (2 * byte_count_of text) (drop head_length text)))
      (λ _. omega arith)
    where
      Fits : List ℕ → Type 0
      Fits d = length d ≤ 2 * (memory_length - address_of text)

-- ---- what the code tells of a record

-- a fault's number is not 0, and no fault's is
pub some_number : (fault : Option Fault) → is_some fault ≡ true → number_in fault ≡ 0 → ⊥
some_number None e z = false≢true e
some_number (Some Malformed) e z = omega arith
some_number (Some CheckSum) e z = omega arith

pub none_number : (fault : Option Fault) → is_some fault ≡ false → number_in fault ≡ 0
none_number None e = refl
none_number (Some fault) e = absurd (false≢true (sym e))

-- the data of a record with a fault and of one without
module _ (text : List ℕ) (fault : Option Fault) (told : number_in fault ≡ fault_of text) where
  pub data_none : is_some fault ≡ true → data_of text ≡ []
  unfolding data_of
  data_none e = rw (ne_eqb (fault_of text) 0 (λ z. some_number fault e (told ∙ z)))

  pub data_some : is_some fault ≡ false → data_of text ≡ take (2 * byte_count_of text) (drop head_length text)
  unfolding data_of
  data_some e = rw (eq-eqb (fault_of text) 0 (sym told ∙ none_number fault e))
