-- Characters put one behind the other, and the lengths of lines.
use mathlib.Core.Path.{◌≡◌, refl, sym, ap, ◌∙◌}
use mathlib.Core.Bool.{cond}
use mathlib.Core.List.{List, [], ◌∷◌, ◌++◌}
use Prim.Native.Nat.{ℕ, zero, suc, ◌+◌, ◌-◌, ◌*◌, ◌/◌, ◌%◌, ◌^◌, ◌≤◌, ◌<◌}
use native.Mathlib.Nat.{add-zero, pow-suc}
use native.Mathlib.Numerals.{add-one}
use native.Mathlib.Omega.{arith}
use lib.Dec.{ltb}
use lib.ListN.{length, take, drop, get_or, set, length-append}
use lib.Seq.{sets, set_comm, take-suc, append_snoc, length-take-le, length-sets, sets-eq, take-append_seam}
use borrow.Author.Tests.{lt-ltb, le-ltb}
use Rattle.bits.proofs.Cond.{cond_both}
use Rattle.record_text.specs.Lines.{
  digit_of,
  digits_of,
  digit_count,
  decimal_of,
  hex_word,
  record_line,
  record_lines,
  end_line,
  Filled,
  filled,
  put_of,
}

-- ---- stores one behind the other

sets_append : (xs ys l : List ℕ) (i : ℕ) → sets (sets l i xs) (i + length xs) ys ≡ sets l i (xs ++ ys)
sets_append [] ys l i = rw (add-zero i)
sets_append (x ∷ xs) ys l i =
    let e : i + suc (length xs) ≡ suc i + length xs = omega arith in
    rw e (sets_append xs ys (set l i x) (suc i))

pub put_append : (xs ys : List ℕ) (w : Filled) → put_of ys (put_of xs w) ≡ put_of (xs ++ ys) w
put_append xs ys w =
    let e : w.place + length xs + length ys ≡ w.place + length (xs ++ ys) = omega (arith, length-append xs ys) in
    rw (e, sets_append xs ys w.text w.place)

put_none : (w : Filled) → put_of [] w ≡ w
put_none w = rw (add-zero w.place)

-- four in a row, and five
pub put_four : (a b c d : List ℕ) (w : Filled)
    → put_of d (put_of c (put_of b (put_of a w))) ≡ put_of (a ++ (b ++ (c ++ d))) w
put_four a b c d w =
    put_append c d (put_of b (put_of a w)) ∙ put_append b (c ++ d) (put_of a w) ∙ put_append a (b ++ (c ++ d)) w

pub put_five : (a b c d e : List ℕ) (w : Filled)
    → put_of e (put_of d (put_of c (put_of b (put_of a w)))) ≡ put_of (a ++ (b ++ (c ++ (d ++ e)))) w
put_five a b c d e w = put_append d e (put_of c (put_of b (put_of a w))) ∙ put_four a b c (d ++ e) w

-- where a put leaves off, and the text's length
pub place_of : {v w : Filled} → v ≡ w → v.place ≡ w.place
place_of e = ap (λ (u : Filled). u.place) e

put_kept : {v : Filled} (characters : List ℕ) (w : Filled) → v ≡ put_of characters w
    → length v.text ≡ length w.text
put_kept characters w e = ap (λ (u : Filled). length u.text) e ∙ length-sets w.text w.place characters

-- what is put from the start of a text on can be read off it
pub put_taken : (characters text₀ text : List ℕ) (place : ℕ) → filled place text ≡ put_of characters (filled 0 text₀)
    → length characters ≤ length text₀
    → take place text ≡ characters
put_taken characters text₀ text place e h =
    let n : place ≡ length characters = omega (arith, place_of e) in
    rw (n, ap (λ (u : Filled). u.text) e, sets-eq characters text₀ 0 (omega arith))
    (take-append_seam characters (drop (0 + length characters) text₀))

-- a store before all the others
set_before : (vs l : List ℕ) (i j a : ℕ) → i < j → set (sets l j vs) i a ≡ sets (set l i a) j vs
set_before [] l i j a h = refl
set_before (v ∷ vs) l i j a h =
    let other : j ≡ i → ⊥ = λ e. omega arith in
    set_before vs (set l j v) i (suc j) a (omega arith)
    ∙ ap (λ (m : List ℕ). sets m (suc j) vs) (set_comm l j i v a other)

-- one character more
pub put_next : (cs l : List ℕ) (at i : ℕ) → i < length cs
    → set (sets l at (take i cs)) (at + i) (get_or cs i 0) ≡ sets l at (take (i + 1) cs)
put_next cs l at i h =
    let n : length (take i cs) ≡ i = length-take-le i cs (omega arith) in
    rw (add-one i, take-suc cs i 0 h, ← sets_append (take i cs) (get_or cs i 0 ∷ []) l at, n)

-- ---- digits

-- the loop that puts digits from the last to the first: `later` are those that stand
pub record Spelling (base count n at : ℕ) (text₀ : List ℕ) (left rest : ℕ) (text : List ℕ) : Type 0 where
  pub later : List ℕ
  pub digits : digits_of base left rest ++ later ≡ digits_of base count n
  pub put : text ≡ sets text₀ (at + left) later
  pub within : left ≤ count

pub digits_length : (base count n : ℕ) → length (digits_of base count n) ≡ count
unfolding digits_of
digits_length base zero n = refl
digits_length base (suc count) n =
    let l = digits_length base count (n / base) in
    omega (arith, length-append (digits_of base count (n / base)) (digit_of (n % base) ∷ []))

module _ (base count n at : ℕ) (text₀ : List ℕ) where
  spelling_next : (left rest : ℕ) (text : List ℕ) → Spelling base count n at text₀ (suc left) rest text
      → Spelling base count n at text₀ left (rest / base) (set text (at + left) (digit_of (rest % base)))
  unfolding digits_of
  spelling_next left rest text s =
      let e : at + suc left ≡ suc (at + left) = omega arith in
      record {
        later = digit_of (rest % base) ∷ s.later;
        digits = rw (← append_snoc (digits_of base left (rest / base)) (digit_of (rest % base)) s.later) s.digits;
        put =
            rw (s.put, e)
            (set_before s.later text₀ (at + left) (suc (at + left)) (digit_of (rest % base)) (omega arith));
        within = omega (arith, s.within);
      }

  pub spelling_on : (left rest digit : ℕ) (text : List ℕ) → 0 < left → Spelling base count n at text₀ left rest text
      → digit ≡ digit_of (rest % base)
      → Spelling base count n at text₀ (left - 1) (rest / base) (set text (at + (left - 1)) digit)
  spelling_on left rest digit text h s e =
      let one : left ≡ suc (left - 1) = omega arith in
      rw e (spelling_next (left - 1) rest text (rw one at s))

  pub spelled : (left rest : ℕ) (text : List ℕ) → left ≤ 0 → Spelling base count n at text₀ left rest text
      → filled (at + count) text ≡ put_of (digits_of base count n) (filled at text₀)
  unfolding digits_of
  spelled left rest text h s =
      let none : left ≡ 0 = omega arith in
      let all : s.later ≡ digits_of base count n = rw none at s.digits in
      rw (s.put, none, add-zero at, all, digits_length base count n)

tenth : (k n : ℕ) → n < 10 ^ (suc k + 1) → n / 10 < 10 ^ (k + 1)
tenth k n h =
    let one : suc k + 1 ≡ suc (k + 1) = omega arith in
    let less : n < 10 ^ (k + 1) * 10 = rw (one, pow-suc 10 (k + 1)) at h in
    omega arith

one_on : (more n : ℕ) → 10 ≤ n → digit_count (suc more) n ≡ 1 + digit_count more (n / 10)
unfolding digit_count
one_on more n h = rw (le-ltb n 10 h)

-- one digit more is never needed of a number that is small enough
count_more : (more n : ℕ) → n < 10 ^ (more + 1) → digit_count more n ≡ digit_count (suc more) n
unfolding digit_count
count_more zero n h = rw (lt-ltb n 10 h)
count_more (suc more) n h = ap (λ k. cond (ltb n 10) 1 (1 + k)) (count_more more (n / 10) (tenth more n h))

pub count_on : (rest : ℕ) → 10 ≤ rest → rest < 2 ^ 32 → digit_count 9 rest ≡ 1 + digit_count 9 (rest / 10)
count_on rest h fits = one_on 8 rest h ∙ ap (λ k. 1 + k) (count_more 8 (rest / 10) (omega arith))

pub count_last : (rest : ℕ) → rest < 10 → digit_count 9 rest ≡ 1
unfolding digit_count
count_last rest h = rw (lt-ltb rest 10 h)

count_bound : (more n : ℕ) → digit_count more n ≤ more + 1
unfolding digit_count
count_bound zero n = omega arith
count_bound (suc more) n =
    let l = count_bound more (n / 10) in
    cond_both (λ k. k ≤ suc more + 1) (ltb n 10) 1 (1 + digit_count more (n / 10)) (λ _. omega arith) (λ _. omega arith)

pub count_ten : (n : ℕ) → digit_count 9 n ≤ 10
count_ten n = omega (arith, count_bound 9 n)

-- a small number has few
count_small : (k more n : ℕ) → n < 10 ^ (k + 1) → digit_count more n ≤ k + 1
unfolding digit_count
count_small k zero n h = omega arith
count_small zero (suc more) n h = rw (lt-ltb n 10 h) (omega arith)
count_small (suc k) (suc more) n h =
    let l = count_small k more (n / 10) (tenth k n h) in
    cond_both (λ d. d ≤ suc k + 1) (ltb n 10) 1 (1 + digit_count more (n / 10)) (λ _. omega arith) (λ _. omega arith)

-- ---- lines

pub decimal_length : (n : ℕ) → length (decimal_of n) ≤ 10
unfolding decimal_of
decimal_length n = omega (arith, digits_length 10 (digit_count 9 n) n, count_ten n)

pub byte_length : (n : ℕ) → n < 256 → length (decimal_of n) ≤ 3
unfolding decimal_of
byte_length n h = omega (arith, digits_length 10 (digit_count 9 n) n, count_small 2 9 n (omega arith))

pub word_length : (word : ℕ) → length (hex_word word) ≡ 8
unfolding hex_word
word_length word = digits_length 16 8 word

record_length_lem : (clock word : ℕ) → length (record_line clock word) ≤ 20
unfolding record_line
record_length_lem clock word = simp length-append (omega (arith, decimal_length clock, word_length word))

pub end_length : (done number : ℕ) → number < 256 → length (end_line done number) ≤ 19
unfolding end_line
end_length done number h = simp length-append (omega (arith, decimal_length done, byte_length number h))

pub lines_length : (times words : List ℕ) → length (record_lines times words) ≤ 20 * length times
unfolding record_lines
lines_length [] words = omega arith
lines_length (clock ∷ times) [] = omega arith
lines_length (clock ∷ times) (word ∷ words) =
    let l = lines_length times words in
    omega (arith, length-append (record_line clock word) (record_lines times words), record_length_lem clock word)

-- the loop over the records: `a` and `b` are what is left of their lists
pub record Listing (times words : List ℕ) (at : ℕ) (text₀ : List ℕ) (place : ℕ) (text a b : List ℕ) : Type 0 where
  pub put : put_of (record_lines a b) (filled place text) ≡ put_of (record_lines times words) (filled at text₀)
  pub room : place + 20 * length a ≤ at + 20 * length times
  pub same : length a ≡ length b
  pub kept : length text ≡ length text₀

module _ (times words : List ℕ) (at : ℕ) (text₀ : List ℕ) where
  pub listing_on : (place place' : ℕ) (text text' a b : List ℕ) {a' b' : List ℕ} {clock word : ℕ}
      → Listing times words at text₀ place text a b
      → a ≡ clock ∷ a' → b ≡ word ∷ b'
      → filled place' text' ≡ put_of (record_line clock word) (filled place text)
      → Listing times words at text₀ place' text' a' b'
  unfolding record_lines
  listing_on place place' text text' a b {a' = a'} {b' = b'} {clock = clock} {word = word} l first second e =
      let line = record_line clock word in
      let later = record_lines a' b' in
      let before : put_of (line ++ later) (filled place text) ≡ put_of (record_lines times words) (filled at text₀) =
      rw (first, second) at l.put in
      let lengths : length a ≡ suc (length a') = ap length first in
      let lengths' : length b ≡ suc (length b') = ap length second in
      record {
        put = ap (put_of later) e ∙ put_append line later (filled place text) ∙ before;
        room = omega (arith, l.room, lengths, place_of e, record_length_lem clock word);
        same = omega (arith, l.same, lengths, lengths');
        kept = put_kept line (filled place text) e ∙ l.kept;
      }

  pub listed : (place : ℕ) (text : List ℕ) {a b : List ℕ} → a ≡ [] → Listing times words at text₀ place text a b
      → filled place text ≡ put_of (record_lines times words) (filled at text₀)
  unfolding record_lines
  listed place text none l = sym (put_none (filled place text)) ∙ (rw none at l.put)
