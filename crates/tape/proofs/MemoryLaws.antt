-- Laws of bytes put into memory.
use mathlib.Core.Path.{◌≡◌, refl, ap, sym, ◌∙◌}
use mathlib.Core.Bool.{Bool, true, false, cond}
use mathlib.Core.List.{List, [], ◌∷◌, ◌++◌, append-nil}
use Prim.Native.Nat.{ℕ, zero, suc, ◌+◌, ◌-◌, ◌*◌, ◌/◌, ◌≤◌, ◌<◌}
use native.Mathlib.Omega.{arith}
use native.Mathlib.Nat.{add-zero, zero-add}
use borrow.Author.Tests.{lt-ltb, le-ltb, ltb-true, ltb-false}
use lib.Dec.{ltb}
use lib.ListN.{length, take, drop, get_or, set, length-set, length-drop, take-append-drop, drop_of_length-le}
use lib.Seq.{take-set-le, drop-set-add, take_at, drop_at, take_all, length-take-le}
use Rattle.bits.proofs.Cond.{cond_both}
use Rattle.page_sums.specs.PageSums.{sums_after_part, sums_after}
use Rattle.page_sums.proofs.Sums.{sums_beside}
use Rattle.tape_records.specs.Digits.{byte_of, bytes_of}
use Rattle.tape.specs.Tapes.{put_from}
use Rattle.tape_records.proofs.DigitLaws.{bytes_next, bytes_end}

-- one byte at an address, unless it is below `least`
abbrev pub put_at : ℕ → ℕ → ℕ → List ℕ → List ℕ
put_at least address b memory = cond (ltb address least) memory (set memory address b)

length_put : (least address b : ℕ) (memory : List ℕ) → length (put_at least address b memory) ≡ length memory
length_put least address b memory =
    cond_both (λ m. length m ≡ length memory) (ltb address least) _ _ (λ _. refl) (λ _. length-set memory address b)

-- memory keeps its length
pub length_puts : (least address : ℕ) (bytes memory : List ℕ)
    → length (put_from least address bytes memory) ≡ length memory
unfolding put_from
length_puts least address [] memory = refl
length_puts least address (b ∷ bytes) memory =
    length_puts least (address + 1) bytes (put_at least address b memory) ∙ length_put least address b memory

-- the bytes below `least` are kept
take_put : (least address b : ℕ) (memory : List ℕ) → take least (put_at least address b memory) ≡ take least memory
take_put least address b memory =
    cond_both (λ m. take least m ≡ take least memory) (ltb address least) _ _ (λ _. refl)
    (λ e. take-set-le least memory address b (ltb-false address least e))

pub take_puts : (least address : ℕ) (bytes memory : List ℕ)
    → take least (put_from least address bytes memory) ≡ take least memory
unfolding put_from
take_puts least address [] memory = refl
take_puts least address (b ∷ bytes) memory =
    take_puts least (address + 1) bytes (put_at least address b memory) ∙ take_put least address b memory

-- the byte writer, at byte k of the digits: a byte that is put, one that is dropped, and the end
module _ (least : ℕ) (digits : List ℕ) where
  abbrev written_from : ℕ → List ℕ → List ℕ
  written_from k part = put_from least k (bytes_of (drop (2 * k) digits)) part

  put_next : (k : ℕ) (part : List ℕ) → k < length digits / 2 → written_from k part
      ≡ written_from (k + 1) (put_at least k (byte_of (get_or digits (2 * k) 0) (get_or digits (2 * k + 1) 0)) part)
  unfolding put_from
  put_next k part h = rw (bytes_next digits k h)

  pub put_end : (k : ℕ) (part : List ℕ) → length digits / 2 ≤ k → written_from k part ≡ part
  unfolding put_from
  put_end k part h = rw (bytes_end digits k h)

  pub put_on : (k : ℕ) (part : List ℕ) → least ≤ k → k < length digits / 2 → written_from k part
      ≡ written_from (k + 1) (set part k (byte_of (get_or digits (2 * k) 0) (get_or digits (2 * k + 1) 0)))
  put_on k part l h = put_next k part h ∙ rw (le-ltb k least l)

  put_dropped : (k : ℕ) (part : List ℕ) → k < least → written_from k part ≡ written_from (k + 1) part
  put_dropped k part l = by_end (ltb k (length digits / 2)) refl
    where
      by_end : (t : Bool) → ltb k (length digits / 2) ≡ t → written_from k part ≡ written_from (k + 1) part
      by_end true e = put_next k part (ltb-true k (length digits / 2) e) ∙ rw (lt-ltb k least l)
      by_end false e =
          let u = ltb-false k (length digits / 2) e in put_end k part u ∙ sym (put_end (k + 1) part (omega arith))

  -- n bytes that are dropped
  put_past : (n k : ℕ) (part : List ℕ) → k + n ≤ least → written_from k part ≡ written_from (k + n) part
  put_past zero k part h = rw add-zero
  put_past (suc n) k part h =
      let e : k + 1 + n ≡ k + suc n = omega arith in
      put_dropped k part (omega arith) ∙ put_past n (k + 1) part (omega arith) ∙ ap (λ i. written_from i part) e

  -- the bytes below `least` come first
  pub put_first : (part : List ℕ) → written_from least part ≡ put_from least 0 (bytes_of digits) part
  put_first part = ap (λ i. written_from i part) (sym (zero-add least)) ∙ sym (put_past least 0 part (omega arith))

-- a byte of the part that starts at an address is that byte of the whole memory
module _ (least a : ℕ) where
  set_part : (k b : ℕ) (m : List ℕ) → take a m ++ set (drop a m) k b ≡ set m (a + k) b
  set_part k b m =
      let h : a ≤ a + k = omega arith in
      rw (← take-set-le a m (a + k) b h, ← drop-set-add a m k b) (take-append-drop a (set m (a + k) b))

  put_part : (k b : ℕ) (m : List ℕ) → take a m ++ put_at (least - a) k b (drop a m) ≡ put_at least (a + k) b m
  put_part k b m = by_test (ltb (a + k) least) refl
    where
      by_test : (t : Bool) → ltb (a + k) least ≡ t
          → take a m ++ put_at (least - a) k b (drop a m) ≡ put_at least (a + k) b m
      by_test true e =
          let l = ltb-true (a + k) least e in
          let u : k < least - a = omega arith in
          rw (lt-ltb k (least - a) u, e) (take-append-drop a m)
      by_test false e =
          let l = ltb-false (a + k) least e in
          let u : least - a ≤ k = omega arith in
          rw (le-ltb k (least - a) u, e) (set_part k b m)

  pub puts_part : (k : ℕ) (bytes m : List ℕ) → a ≤ length m
      → take a m ++ put_from (least - a) k bytes (drop a m) ≡ put_from least (a + k) bytes m
  unfolding put_from
  puts_part k [] m h = take-append-drop a m
  puts_part k (b ∷ bytes) m h =
      let x = put_at (least - a) k b (drop a m) in
      let m' = put_at least (a + k) b m in
      let e : take a m ++ x ≡ m' = put_part k b m in
      let n : length (take a m) ≡ a = length-take-le a m h in
      let t : take a m' ≡ take a m = ap (take a) (sym e) ∙ take_at (take a m) x a n in
      let r : drop a m' ≡ x = ap (drop a) (sym e) ∙ drop_at (take a m) x a n in
      let s : a + (k + 1) ≡ a + k + 1 = omega arith in
      let h' : a ≤ length m' = omega (arith, length_put least (a + k) b m) in
      rw (← t, ← r, ← s) (puts_part (k + 1) bytes m' h')

-- the part from an address to the end, lent and come back as `y`
module _ (a : ℕ) (m y : List ℕ) (h : a ≤ length m) where
  abbrev lent : List ℕ
  lent = take (length m - a) (drop a m)

  abbrev back : List ℕ
  back = take a m ++ (y ++ drop (length m - a) (drop a m))

  lent_all : lent ≡ drop a m
  lent_all = take_all (length m - a) (drop a m) (omega (arith, length-drop a m))

  back_all : back ≡ take a m ++ y
  back_all =
      let n : length (drop a m) ≤ length m - a = omega (arith, length-drop a m) in
      rw (drop_of_length-le (drop a m) n, append-nil y)

  pub put_back : (least : ℕ) (bytes : List ℕ) → y ≡ put_from (least - a) 0 bytes lent → back ≡ put_from least a bytes m
  put_back least bytes e =
      let y' : y ≡ put_from (least - a) 0 bytes (drop a m) = e ∙ ap (put_from (least - a) 0 bytes) lent_all in
      back_all ∙ ap (λ x. take a m ++ x) y' ∙ puts_part least a 0 bytes m h ∙ rw add-zero

  pub sums_back : (sums later : List ℕ) → later ≡ sums_after_part a sums lent y → later ≡ sums_after sums m back
  sums_back sums later e =
      let n : length (take a m) ≡ a = length-take-le a m h in
      e
      ∙ ap (λ x. sums_after_part a sums x y) lent_all
      ∙ ap (λ k. sums_after_part k sums (drop a m) y) (sym n)
      ∙ sym (sums_beside sums (take a m) (drop a m) y)
      ∙ rw (take-append-drop a m, back_all)
