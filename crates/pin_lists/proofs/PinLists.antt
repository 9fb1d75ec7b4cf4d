-- Laws of pin lists: what a right list is like, and what is left of it after a clock.
use mathlib.Core.Path.{◌≡◌, refl, ap, subst}
use mathlib.Core.Bool.{Bool, true, false, ◌&&◌, ◌||◌, false≢true}
use mathlib.Core.List.{List, [], ◌∷◌}
use mathlib.Core.Logic.{◌⊎◌, inl, inr, ⊎_elim}
use Prim.Native.Nat.{ℕ, zero, suc, ◌+◌, ◌≤◌, ◌<◌}
use native.Mathlib.Nat.{le_of_suc-le-suc, not-suc-le-zero}
use native.Mathlib.Omega.{arith}
use lib.Dec.{ltb, eqb}
use lib.ListN.{length, get_or, drop}
use borrow.Author.Tests.{ltb-true, eqb-true, eqb-false, lt-ltb}
use Rattle.bits.proofs.Cond.{cond_both, and_left, and_right, and_both}
use Rattle.pin_lists.specs.PinLists.{pin_of, code_right, entry_right, rest_right, pins_right, input_count}

module _ (last_pin : ℕ) where
  -- an entry behind another: its code is right, and its clock is not below the other's
  entry_code : (c p t d : ℕ) → entry_right last_pin c p t d ≡ true → code_right last_pin d ≡ true
  unfolding entry_right
  entry_code c p t d e = and_left (code_right last_pin d) (ltb c t || (eqb c t && ltb p (pin_of d))) e

  entry_from : (c p t d : ℕ) → entry_right last_pin c p t d ≡ true → c ≤ t
  unfolding entry_right
  entry_from c p t d e =
      ⊎_elim (λ h. omega (arith, ltb-true c t h)) (λ h. omega (arith, eqb-true c t h))
      (either (ltb c t) (eqb c t) (ltb p (pin_of d))
      (and_right (code_right last_pin d) (ltb c t || (eqb c t && ltb p (pin_of d))) e))
    where
      either : (a b x : Bool) → (a || (b && x)) ≡ true → (a ≡ true) ⊎ (b ≡ true)
      either true b x e = inl refl
      either false b x e = inr (and_left b x e)

  -- an entry and those behind it, of a list that is right behind some entry
  module _ (c p t d : ℕ) (ts ds : List ℕ)
      (e : (entry_right last_pin c p t d && rest_right last_pin t (pin_of d) ts ds) ≡ true) where
    head_right : entry_right last_pin c p t d ≡ true
    head_right = and_left (entry_right last_pin c p t d) (rest_right last_pin t (pin_of d) ts ds) e

    tail_right : rest_right last_pin t (pin_of d) ts ds ≡ true
    tail_right = and_right (entry_right last_pin c p t d) (rest_right last_pin t (pin_of d) ts ds) e

  -- the first entry and those behind it, of a list that is right for a state's clock
  module _ (c t d : ℕ) (ts ds : List ℕ)
      (e : (code_right last_pin d && ltb c t && rest_right last_pin t (pin_of d) ts ds) ≡ true) where
    first_right : (code_right last_pin d && ltb c t) ≡ true
    first_right = and_left (code_right last_pin d && ltb c t) (rest_right last_pin t (pin_of d) ts ds) e

    first_code : code_right last_pin d ≡ true
    first_code = and_left (code_right last_pin d) (ltb c t) first_right

    first_above : c < t
    first_above = ltb-true c t (and_right (code_right last_pin d) (ltb c t) first_right)

    behind_first : rest_right last_pin t (pin_of d) ts ds ≡ true
    behind_first = and_right (code_right last_pin d && ltb c t) (rest_right last_pin t (pin_of d) ts ds) e

  -- "two lent lists of equal length"
  rest_lengths : (c p : ℕ) (ts cs : List ℕ) → rest_right last_pin c p ts cs ≡ true → length ts ≡ length cs
  unfolding rest_right
  rest_lengths c p [] [] e = refl
  rest_lengths c p [] (d ∷ ds) e = absurd (false≢true e)
  rest_lengths c p (t ∷ ts) [] e = absurd (false≢true e)
  rest_lengths c p (t ∷ ts) (d ∷ ds) e = ap suc (rest_lengths t (pin_of d) ts ds (tail_right c p t d ts ds e))

  pub right_lengths : (c : ℕ) (ts cs : List ℕ) → pins_right last_pin c ts cs ≡ true → length ts ≡ length cs
  unfolding pins_right
  right_lengths c [] [] e = refl
  right_lengths c [] (d ∷ ds) e = absurd (false≢true e)
  right_lengths c (t ∷ ts) [] e = absurd (false≢true e)
  right_lengths c (t ∷ ts) (d ∷ ds) e = ap suc (rest_lengths t (pin_of d) ts ds (behind_first c t d ts ds e))

  -- no entry behind another is below it, and none of a right list at or below the state's clock
  rest_from : (c p : ℕ) (ts cs : List ℕ) → rest_right last_pin c p ts cs ≡ true → (k : ℕ) → k < length ts
      → c ≤ get_or ts k 0
  unfolding rest_right
  rest_from c p [] cs e k h = absurd (not-suc-le-zero h)
  rest_from c p (t ∷ ts) [] e k h = absurd (false≢true e)
  rest_from c p (t ∷ ts) (d ∷ ds) e zero h = entry_from c p t d (head_right c p t d ts ds e)
  rest_from c p (t ∷ ts) (d ∷ ds) e (suc k) h =
      let a = entry_from c p t d (head_right c p t d ts ds e) in
      let b = rest_from t (pin_of d) ts ds (tail_right c p t d ts ds e) k (le_of_suc-le-suc h) in
      omega (arith, a, b)

  pub right_above : (c : ℕ) (ts cs : List ℕ) → pins_right last_pin c ts cs ≡ true → (k : ℕ) → k < length ts
      → c < get_or ts k 0
  unfolding pins_right
  right_above c [] cs e k h = absurd (not-suc-le-zero h)
  right_above c (t ∷ ts) [] e k h = absurd (false≢true e)
  right_above c (t ∷ ts) (d ∷ ds) e zero h = first_above c t d ts ds e
  right_above c (t ∷ ts) (d ∷ ds) e (suc k) h =
      let a = first_above c t d ts ds e in
      let b = rest_from t (pin_of d) ts ds (behind_first c t d ts ds e) k (le_of_suc-le-suc h) in
      omega (arith, a, b)

  -- what is left of two lists once the inputs of clock c are read is right for c
  abbrev ReadRight : ℕ → List ℕ → List ℕ → Type 0
  ReadRight c ts cs = pins_right last_pin c (drop (input_count c ts) ts) (drop (input_count c ts) cs) ≡ true

  -- it is, where the first entry is at c or later, and what is left of the others is
  read_first : (c t d : ℕ) (ts ds : List ℕ) → code_right last_pin d ≡ true → c ≤ t
      → rest_right last_pin t (pin_of d) ts ds ≡ true
      → (rest_right last_pin c (pin_of d) ts ds ≡ true → ReadRight c ts ds) → ReadRight c (t ∷ ts) (d ∷ ds)
  unfolding pins_right input_count
  read_first c t d ts ds code from rest others =
      cond_both (λ (n : ℕ). pins_right last_pin c (drop n (t ∷ ts)) (drop n (d ∷ ds)) ≡ true) (eqb t c)
      (suc (input_count c ts)) 0
      (λ h. others (subst (λ (u : ℕ). rest_right last_pin u (pin_of d) ts ds ≡ true) (eqb-true t c h) rest))
      (λ h.
      let other = eqb-false t c h in
      let later : c < t = omega arith in
      and_both (code_right last_pin d && ltb c t) (rest_right last_pin t (pin_of d) ts ds)
      (and_both (code_right last_pin d) (ltb c t) code (lt-ltb c t later)) rest)

  rest_read : (c p : ℕ) (ts cs : List ℕ) → rest_right last_pin c p ts cs ≡ true → ReadRight c ts cs
  unfolding rest_right pins_right input_count
  rest_read c p [] [] e = refl
  rest_read c p [] (d ∷ ds) e = absurd (false≢true e)
  rest_read c p (t ∷ ts) [] e = absurd (false≢true e)
  rest_read c p (t ∷ ts) (d ∷ ds) e =
      let head = head_right c p t d ts ds e in
      read_first c t d ts ds (entry_code c p t d head) (entry_from c p t d head) (tail_right c p t d ts ds e)
      (rest_read c (pin_of d) ts ds)

  -- a clock done: a right list without that clock's inputs is right for that clock
  pub right_read : (c : ℕ) (ts cs : List ℕ) → pins_right last_pin c ts cs ≡ true
      → pins_right last_pin (c + 1) (drop (input_count (c + 1) ts) ts) (drop (input_count (c + 1) ts) cs) ≡ true
  unfolding pins_right input_count
  right_read c [] [] e = refl
  right_read c [] (d ∷ ds) e = absurd (false≢true e)
  right_read c (t ∷ ts) [] e = absurd (false≢true e)
  right_read c (t ∷ ts) (d ∷ ds) e =
      let above = first_above c t d ts ds e in
      read_first (c + 1) t d ts ds (first_code c t d ts ds e) (omega arith) (behind_first c t d ts ds e)
      (rest_read (c + 1) (pin_of d) ts ds)

  -- a clock without inputs
  pub right_unread : (c : ℕ) (ts cs : List ℕ) → pins_right last_pin c ts cs ≡ true → input_count (c + 1) ts ≡ 0
      → pins_right last_pin (c + 1) ts cs ≡ true
  right_unread c ts cs e none =
      subst (λ (k : ℕ). pins_right last_pin (c + 1) (drop k ts) (drop k cs) ≡ true) none (right_read c ts cs e)

  -- any number of clocks without inputs: a right list is right for every clock below its first
  pub right_until : (c c' : ℕ) (ts cs : List ℕ) → pins_right last_pin c ts cs ≡ true → c' < get_or ts 0 (suc c')
      → pins_right last_pin c' ts cs ≡ true
  unfolding pins_right
  right_until c c' [] [] e h = refl
  right_until c c' [] (d ∷ ds) e h = absurd (false≢true e)
  right_until c c' (t ∷ ts) [] e h = absurd (false≢true e)
  right_until c c' (t ∷ ts) (d ∷ ds) e h =
      and_both (code_right last_pin d && ltb c' t) (rest_right last_pin t (pin_of d) ts ds)
      (and_both (code_right last_pin d) (ltb c' t) (first_code c t d ts ds e) (lt-ltb c' t h))
      (behind_first c t d ts ds e)

-- the inputs of a clock are entries of the list, at that clock; the one behind them is not
pub input_count_within : (c : ℕ) (ts : List ℕ) → input_count c ts ≤ length ts
unfolding input_count
input_count_within c [] = omega arith
input_count_within c (t ∷ ts) =
    cond_both (λ (n : ℕ). n ≤ suc (length ts)) (eqb t c) (suc (input_count c ts)) 0
    (λ h. omega (arith, input_count_within c ts))
    (λ h. omega arith)

pub input_count_at : (c : ℕ) (ts : List ℕ) (k : ℕ) → k < input_count c ts → get_or ts k 0 ≡ c
unfolding input_count
input_count_at c [] k h = absurd (not-suc-le-zero h)
input_count_at c (t ∷ ts) zero h =
    cond_both (λ (n : ℕ). 0 < n → t ≡ c) (eqb t c) (suc (input_count c ts)) 0 (λ e _. eqb-true t c e)
    (λ _ l. absurd (not-suc-le-zero l)) h
input_count_at c (t ∷ ts) (suc k) h =
    cond_both (λ (n : ℕ). suc k < n → get_or ts k 0 ≡ c) (eqb t c) (suc (input_count c ts)) 0
    (λ _ l. input_count_at c ts k (le_of_suc-le-suc l)) (λ _ l. absurd (not-suc-le-zero l)) h

pub input_count_ends : (c : ℕ) (ts : List ℕ) → input_count c ts < length ts → get_or ts (input_count c ts) 0 ≡ c → ⊥
unfolding input_count
input_count_ends c [] h = absurd (not-suc-le-zero h)
input_count_ends c (t ∷ ts) h =
    cond_both (λ (n : ℕ). n < suc (length ts) → get_or (t ∷ ts) n 0 ≡ c → ⊥) (eqb t c) (suc (input_count c ts)) 0
    (λ _ l. input_count_ends c ts (le_of_suc-le-suc l)) (λ e _. eqb-false t c e) h
