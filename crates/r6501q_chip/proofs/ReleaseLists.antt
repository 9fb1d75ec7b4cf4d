-- RES high on clock 1, put into an input list as the last of that clock's inputs: the list is right just where it was,
-- and clock 1 has one input more.
use mathlib.Core.Path.{◌≡◌, refl, sym, ap}
use mathlib.Core.Bool.{Bool, true, false, ◌&&◌, cond}
use mathlib.Core.List.{List, [], ◌∷◌, ◌++◌}
use Prim.Native.Nat.{ℕ, zero, suc, ◌≤◌, ◌<◌}
use native.Mathlib.Nat.{le_of_suc-le-suc}
use native.Mathlib.Omega.{arith}
use lib.Dec.{ltb, eqb}
use lib.ListN.{length, take, drop}
use borrow.Author.Tests.{ltb-true, ltb-false, lt-ltb, le-ltb, eqb-true, eqb-false, eq-eqb, ne_eqb}
use Rattle.bits.specs.Lists.{all_of}
use Rattle.bits.proofs.Cond.{and_left, and_right}
use Rattle.pin_lists.specs.PinLists.{pin_of, code_right, entry_right, rest_right, pins_right, input_count}
use Rattle.r6501q_state.specs.Inputs.{last_pin, res_high}

-- a list with one entry more, behind the first `count`
abbrev pub inserted : ℕ → ℕ → List ℕ → List ℕ
inserted count x l = take count l ++ (x ∷ drop count l)

-- the lists with RES high on clock 1 too, last of that clock's inputs
abbrev pub release_clocks : List ℕ → List ℕ
release_clocks clocks = inserted (input_count 1 clocks) 1 clocks

abbrev pub release_codes : List ℕ → List ℕ → List ℕ
release_codes clocks codes = inserted (input_count 1 clocks) res_high codes

-- inputs of pins below RES, the last pin
abbrev pub below_res : List ℕ → Bool
below_res codes = all_of (λ (code : ℕ). ltb (pin_of code) last_pin) codes

pub inserted_take : (k x : ℕ) (l : List ℕ) → k ≤ length l → take (suc k) (inserted k x l) ≡ take k l ++ (x ∷ [])
inserted_take zero x l h = refl
inserted_take (suc k) x [] h = absurd (omega arith)
inserted_take (suc k) x (y ∷ l) h = ap {B = List ℕ} (λ r. y ∷ r) (inserted_take k x l (le_of_suc-le-suc h))

pub inserted_drop : (k x : ℕ) (l : List ℕ) → k ≤ length l → drop (suc k) (inserted k x l) ≡ drop k l
inserted_drop zero x l h = refl
inserted_drop (suc k) x [] h = absurd (omega arith)
inserted_drop (suc k) x (y ∷ l) h = inserted_drop k x l (le_of_suc-le-suc h)

-- it is one of clock 1's inputs
pub input_count_inserted : (clocks : List ℕ) → input_count 1 (release_clocks clocks) ≡ suc (input_count 1 clocks)
unfolding input_count
input_count_inserted [] = refl
input_count_inserted (t ∷ clocks) = by_test (eqb t 1) refl (input_count_inserted clocks)
  where
    by_test : (first : Bool) → eqb t 1 ≡ first → input_count 1 (release_clocks clocks) ≡ suc (input_count 1 clocks)
        → input_count 1 (inserted (cond first (suc (input_count 1 clocks)) 0) 1 (t ∷ clocks))
        ≡ suc (cond first (suc (input_count 1 clocks)) 0)
    by_test true e later = rw e (ap suc later)
    by_test false e later = rw e

pub inserted_length : (k x : ℕ) (l : List ℕ) → length (inserted k x l) ≡ suc (length l)
inserted_length zero x l = refl
inserted_length (suc k) x [] = refl
inserted_length (suc k) x (y ∷ l) = ap suc (inserted_length k x l)

pub suc_same : (m n : ℕ) → eqb (suc m) (suc n) ≡ eqb m n
suc_same m n = by_test (eqb m n) refl
  where
    by_test : (t : Bool) → eqb m n ≡ t → eqb (suc m) (suc n) ≡ t
    by_test true e = eq-eqb (suc m) (suc n) (ap suc (eqb-true m n e))
    by_test false e = ne_eqb (suc m) (suc n) (λ z. eqb-false m n e (omega (arith, z)))

-- a list of clocks that goes on has no codes behind it
no_codes : (c p k x : ℕ) (l : List ℕ) → rest_right last_pin c p (inserted k x l) [] ≡ false
unfolding rest_right
no_codes c p zero x l = refl
no_codes c p (suc k) x [] = refl
no_codes c p (suc k) x (y ∷ l) = refl

and_none : (a : Bool) → (a && false) ≡ false
and_none true = refl
and_none false = refl

-- "within one clock pins rise strictly": RES may stand behind any other pin, and an entry of another clock behind it
entry_res : (pin : ℕ) → pin < last_pin → entry_right last_pin 1 pin 1 res_high ≡ true
unfolding entry_right code_right
entry_res pin h = rw (lt-ltb pin last_pin h)

entry_behind : (pin t code : ℕ) → eqb t 1 ≡ false
    → entry_right last_pin 1 last_pin t code ≡ entry_right last_pin 1 pin t code
unfolding entry_right
entry_behind pin t code e = rw (ne_eqb 1 t (λ z. eqb-false t 1 e (sym z)))

-- so the lists are right just where they were
rest_same : (pin : ℕ) (ts cs : List ℕ) → pin < last_pin → below_res (take (input_count 1 ts) cs) ≡ true
    → rest_right last_pin 1 pin (release_clocks ts) (release_codes ts cs) ≡ rest_right last_pin 1 pin ts cs
unfolding rest_right input_count
rest_same pin [] [] h b = rw (entry_res pin h)
rest_same pin [] (c ∷ cs) h b = rw (entry_res pin h)
rest_same pin (t ∷ ts) [] h b = by_test (eqb t 1) refl
  where
    by_test : (first : Bool) → eqb t 1 ≡ first
        → rest_right last_pin 1 pin (inserted (cond first (suc (input_count 1 ts)) 0) 1 (t ∷ ts))
        (inserted (cond first (suc (input_count 1 ts)) 0) res_high []) ≡ false
    by_test true e = rw (no_codes t last_pin (input_count 1 ts) 1 ts) (and_none (entry_right last_pin 1 pin t res_high))
    by_test false e = and_none (entry_right last_pin 1 pin 1 res_high)
rest_same pin (t ∷ ts) (c ∷ cs) h b = by_test (eqb t 1) refl b (rest_same (pin_of c) ts cs)
  where
    by_test : (first : Bool) → eqb t 1 ≡ first → below_res (take (cond first (suc (input_count 1 ts)) 0) (c ∷ cs)) ≡ true
        → (pin_of c < last_pin → below_res (take (input_count 1 ts) cs) ≡ true
        → rest_right last_pin 1 (pin_of c) (release_clocks ts) (release_codes ts cs) ≡ rest_right last_pin 1 (pin_of c) ts cs)
        → rest_right last_pin 1 pin (inserted (cond first (suc (input_count 1 ts)) 0) 1 (t ∷ ts))
        (inserted (cond first (suc (input_count 1 ts)) 0) res_high (c ∷ cs))
        ≡ (entry_right last_pin 1 pin t c && rest_right last_pin t (pin_of c) ts cs)
    by_test true e below later =
        let is = eqb-true t 1 e in
        let lower =
        ltb-true (pin_of c) last_pin (and_left (ltb (pin_of c) last_pin) (below_res (take (input_count 1 ts) cs)) below) in
        rw is (ap (λ (r : Bool). entry_right last_pin 1 pin 1 c && r)
        (later lower (and_right (ltb (pin_of c) last_pin) (below_res (take (input_count 1 ts) cs)) below)))
    by_test false e below later = rw (entry_res pin h, entry_behind pin t c e)

pub pins_same : (ts cs : List ℕ) → below_res (take (input_count 1 ts) cs) ≡ true
    → pins_right last_pin 0 (release_clocks ts) (release_codes ts cs) ≡ pins_right last_pin 0 ts cs
unfolding pins_right rest_right input_count code_right entry_right
pins_same [] [] b = refl
pins_same [] (c ∷ cs) b = refl
pins_same (t ∷ ts) [] b = by_test (eqb t 1) refl
  where
    by_test : (first : Bool) → eqb t 1 ≡ first
        → pins_right last_pin 0 (inserted (cond first (suc (input_count 1 ts)) 0) 1 (t ∷ ts))
        (inserted (cond first (suc (input_count 1 ts)) 0) res_high []) ≡ false
    by_test true e = rw (no_codes t last_pin (input_count 1 ts) 1 ts) (and_none (ltb 0 t))
    by_test false e = refl
pins_same (t ∷ ts) (c ∷ cs) b = by_test (eqb t 1) refl b
  where
    by_test : (first : Bool) → eqb t 1 ≡ first → below_res (take (cond first (suc (input_count 1 ts)) 0) (c ∷ cs)) ≡ true
        → pins_right last_pin 0 (inserted (cond first (suc (input_count 1 ts)) 0) 1 (t ∷ ts))
        (inserted (cond first (suc (input_count 1 ts)) 0) res_high (c ∷ cs))
        ≡ (code_right last_pin c && ltb 0 t && rest_right last_pin t (pin_of c) ts cs)
    by_test true e below =
        let is = eqb-true t 1 e in
        let lower =
        ltb-true (pin_of c) last_pin (and_left (ltb (pin_of c) last_pin) (below_res (take (input_count 1 ts) cs)) below) in
        rw is (ap (λ (r : Bool). code_right last_pin c && ltb 0 1 && r) (rest_same (pin_of c) ts cs lower
        (and_right (ltb (pin_of c) last_pin) (below_res (take (input_count 1 ts) cs)) below)))
    by_test false e below = by_zero (ltb 0 t) refl
      where
        other : t ≡ 1 → ⊥
        other = eqb-false t 1 e

        by_zero : (some : Bool) → ltb 0 t ≡ some
            → (entry_right last_pin 1 last_pin t c && rest_right last_pin t (pin_of c) ts cs)
            ≡ (code_right last_pin c && some && rest_right last_pin t (pin_of c) ts cs)
        by_zero true z = rw (lt-ltb 1 t (omega (arith, ltb-true 0 t z, other)))
        by_zero false z = rw (ne_eqb 1 t (λ y. other (sym y)), le-ltb 1 t (omega (arith, ltb-false 0 t z)))
