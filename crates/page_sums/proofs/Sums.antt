-- Laws of sums beside a memory that changes: of any list of sums, right or wrong.
use mathlib.Core.Path.{◌≡◌, refl, ap, sym, ◌∙◌}
use mathlib.Core.Bool.{Bool, true, false, cond}
use mathlib.Core.List.{List, [], ◌∷◌, ◌++◌}
use Prim.Native.Nat.{ℕ, zero, suc, ◌+◌, ◌-◌, ◌%◌, ◌≤◌, ◌<◌}
use native.Mathlib.Nat.{add-zero, zero-add}
use native.Mathlib.Omega.{arith}
use borrow.Author.Tests.{eq-eqb, ne_eqb, eqb-true, eqb-false, ltb-true, ltb-false}
use lib.Dec.{eqb, ltb}
use lib.ListN.{length, get_or, set, replicate, length-set, length-replicate, get_or-replicate, get_or-eq_default}
use lib.Seq.{ext_get_or, get_or-set_same, get_or-set_other}
use Rattle.bits.proofs.Tables.{get_d_tabulate, length_tabulate}
use Rattle.page_sums.specs.PageSums.{sum_modulus, page_of, part_sum, page_sum, sum_changed, sum_at, sum_after}
use Rattle.page_sums.specs.PageSums.{sums_after_part, sums_after, Right, SixteenBits}

-- ---- one sum

module _ (sum : ℕ) where
  -- modulo 65,536 the new sum with what was there before is the old one with what is there after; no other below 65,536
  -- is
  pub changed_exactly : (before after : ℕ)
      → (sum_changed sum before after + before) % sum_modulus ≡ (sum + after) % sum_modulus
  unfolding sum_changed
  changed_exactly before after = omega arith

  pub changed_alone : (before after x : ℕ) → x < sum_modulus → (x + before) % sum_modulus ≡ (sum + after) % sum_modulus
      → x ≡ sum_changed sum before after
  unfolding sum_changed
  changed_alone before after x h e = omega arith

  pub changed_below : (before after : ℕ) → sum_changed sum before after < sum_modulus
  unfolding sum_changed
  changed_below before after = omega arith

  -- where the page's bytes stay, or sum to the same
  pub unchanged : (before : ℕ) → sum < sum_modulus → sum_changed sum before before ≡ sum
  unfolding sum_changed
  unchanged before h = omega arith

  -- one change after another
  pub changed_twice : (a b c : ℕ) → sum_changed (sum_changed sum a b) b c ≡ sum_changed sum a c
  unfolding sum_changed
  changed_twice a b c = omega arith

  -- changes by as much come to the same
  pub changed_as_much : (a b c d : ℕ) → d + a ≡ c + b → sum_changed sum a b ≡ sum_changed sum c d
  unfolding sum_changed
  changed_as_much a b c d e = omega arith

  -- to add 65,536 less what was there is to take it off
  pub taken_off : (before after : ℕ) → before ≤ sum_modulus
      → (sum + after + sum_modulus - before) % sum_modulus ≡ sum_changed sum before after
  unfolding sum_changed
  taken_off before after h = omega arith

  -- what else is in the page plays no part
  pub changed_beside : (rest before after : ℕ)
      → sum_changed sum (rest + before) (rest + after) ≡ sum_changed sum before after
  unfolding sum_changed
  changed_beside rest before after = omega arith

-- a right sum is right afterwards
pub changed_right : (before after : ℕ) → sum_changed (before % sum_modulus) before after ≡ after % sum_modulus
unfolding sum_changed
changed_right before after = omega arith

-- ---- a page's sum

module _ (p : ℕ) where
  -- of one part behind another
  pub part_append : (address : ℕ) (x y : List ℕ)
      → part_sum p address (x ++ y) ≡ part_sum p address x + part_sum p (address + length x) y
  unfolding part_sum
  part_append address [] y = rw add-zero (omega arith)
  part_append address (b ∷ x) y =
      let e : address + 1 + length x ≡ address + suc (length x) = omega arith in
      omega (arith, part_append (address + 1) x y, ap (λ n. part_sum p n y) e)

  -- a byte put: of its own page the sum goes by what the byte changes
  pub put_own : (address k v : ℕ) (part : List ℕ) → k < length part → page_of (address + k) ≡ p
      → part_sum p address (set part k v) + get_or part k 0 ≡ part_sum p address part + v
  unfolding part_sum
  put_own address k v [] h e = absurd (omega arith)
  put_own address zero v (b ∷ part) h e =
      let own : page_of address ≡ p = rw add-zero at e in rw (eq-eqb (page_of address) p own) (omega arith)
  put_own address (suc k) v (b ∷ part) h e =
      let later : address + 1 + k ≡ address + suc k = omega arith in
      omega (arith, put_own (address + 1) k v part (omega arith) (ap page_of later ∙ e))

  -- and no other page's does
  pub put_other : (address k v : ℕ) (part : List ℕ) → (page_of (address + k) ≡ p → ⊥)
      → part_sum p address (set part k v) ≡ part_sum p address part
  unfolding part_sum
  put_other address k v [] other = refl
  put_other address zero v (b ∷ part) other =
      let alone : page_of address ≡ p → ⊥ = λ e. other (ap page_of (add-zero address) ∙ e) in
      rw (ne_eqb (page_of address) p alone)
  put_other address (suc k) v (b ∷ part) other =
      let later : address + 1 + k ≡ address + suc k = omega arith in
      ap (λ n. cond (eqb (page_of address) p) b 0 + n)
      (put_other (address + 1) k v part (λ e. other (ap page_of (sym later) ∙ e)))

-- ---- the sums

module _ (address : ℕ) (sums part later : List ℕ) where
  pub sums_length : length (sums_after_part address sums part later) ≡ length sums
  unfolding sums_after_part
  sums_length = length_tabulate _ (length sums) 0

  pub sum_after_lem : (p : ℕ) → p < length sums
      → get_or (sums_after_part address sums part later) p 0 ≡ sum_after address sums part later p
  unfolding sums_after_part
  sum_after_lem p h =
      get_d_tabulate (sum_after address sums part later) (length sums) 0 p 0 h
      ∙ ap (sum_after address sums part later) (zero-add p)

  -- a list of as many sums with these entries is this one
  pub sums_are : (l : List ℕ) → length l ≡ length sums
      → ((p : ℕ) → p < length sums → get_or l p 0 ≡ sum_after address sums part later p)
      → l ≡ sums_after_part address sums part later
  sums_are l n h =
      ext_get_or 0 l (sums_after_part address sums part later) (n ∙ sym sums_length)
      (λ p u. let i : p < length sums = omega (arith, n) in h p i ∙ sym (sum_after_lem p i))

-- each is again of 16 bits
pub sixteen_after : (address : ℕ) (sums part later : List ℕ) → SixteenBits (sums_after_part address sums part later)
sixteen_after address sums part later p = by_place (ltb p (length sums)) refl
  where
    by_place : (t : Bool) → ltb p (length sums) ≡ t → sum_at (sums_after_part address sums part later) p < sum_modulus
    by_place true e =
        rw (sum_after_lem address sums part later p (ltb-true p (length sums) e))
        (changed_below (sum_at sums p) (part_sum p address part) (part_sum p address later))
    by_place false e =
        let beyond : length (sums_after_part address sums part later) ≤ p =
        omega (arith, sums_length address sums part later, ltb-false p (length sums) e) in
        rw (get_or-eq_default (sums_after_part address sums part later) 0 beyond) (omega arith)

-- a list of no sums stays so
pub no_sums : (address : ℕ) (part later : List ℕ) → sums_after_part address [] part later ≡ []
unfolding sums_after_part
no_sums address part later = refl

-- where nothing changes
pub sums_kept : (address : ℕ) (sums part : List ℕ) → SixteenBits sums → sums ≡ sums_after_part address sums part part
sums_kept address sums part words =
    sums_are address sums part part sums refl (λ p h. sym (unchanged (sum_at sums p) (part_sum p address part) (words p)))

-- the changes of one memory after another add up
pub sums_twice : (address : ℕ) (sums a b c : List ℕ)
    → sums_after_part address (sums_after_part address sums a b) b c ≡ sums_after_part address sums a c
sums_twice address sums a b c =
    let between = sums_after_part address sums a b in
    let n = sums_length address sums a b in
    sums_are address sums a c (sums_after_part address between b c) (sums_length address between b c ∙ n)
    (λ p h. let i : p < length between = omega (arith, n) in
    sum_after_lem address between b c p i
    ∙ ap (λ s. sum_changed s (part_sum p address b) (part_sum p address c)) (sum_after_lem address sums a b p h)
    ∙ changed_twice (sum_at sums p) (part_sum p address a) (part_sum p address b) (part_sum p address c))

-- a change behind another
pub sums_then : (address : ℕ) (sums a b c : List ℕ) {between last : List ℕ} → between ≡ sums_after_part address sums a b
    → last ≡ sums_after_part address between b c → last ≡ sums_after_part address sums a c
sums_then address sums a b c e f = f ∙ ap (λ l. sums_after_part address l b c) e ∙ sums_twice address sums a b c

-- a part that changes alone
pub sums_beside : (sums front x y : List ℕ)
    → sums_after sums (front ++ x) (front ++ y) ≡ sums_after_part (length front) sums x y
sums_beside sums front x y =
    sums_are (length front) sums x y (sums_after sums (front ++ x) (front ++ y))
    (sums_length 0 sums (front ++ x) (front ++ y))
    (λ p h. sum_after_lem 0 sums (front ++ x) (front ++ y) p h
    ∙ rw (part_append p 0 front x, part_append p 0 front y, zero-add (length front))
    (changed_beside (sum_at sums p) (part_sum p 0 front) (part_sum p (length front) x) (part_sum p (length front) y)))

-- a byte put changes the sum of its page alone, by what the byte changes
pub byte_summed : (address k v : ℕ) (sums part : List ℕ) → SixteenBits sums → k < length part
    → set sums (page_of (address + k)) (sum_changed (get_or sums (page_of (address + k)) 0) (get_or part k 0) v)
    ≡ sums_after_part address sums part (set part k v)
byte_summed address k v sums part words h =
    sums_are address sums part (set part k v) (set sums own new) (length-set sums own new)
    (λ p i. by_page p i (eqb own p) refl)
  where
    own : ℕ
    own = page_of (address + k)

    new : ℕ
    new = sum_changed (get_or sums own 0) (get_or part k 0) v

    by_page : (p : ℕ) → p < length sums → (t : Bool) → eqb own p ≡ t
        → get_or (set sums own new) p 0 ≡ sum_after address sums part (set part k v) p
    by_page p i true e =
        let same : own ≡ p = eqb-true own p e in
        let inside : own < length sums = omega arith in
        rw (← same)
        (get_or-set_same sums own new 0 inside
        ∙ changed_as_much (get_or sums own 0) (get_or part k 0) v (part_sum own address part)
        (part_sum own address (set part k v)) (put_own own address k v part h refl))
    by_page p i false e =
        let other = eqb-false own p e in
        get_or-set_other sums own p new 0 (λ s. other (sym s))
        ∙ sym (rw (put_other p address k v part other) (unchanged (sum_at sums p) (part_sum p address part) (words p)))

-- ---- document 02, U7

-- a sum changes, right or wrong before, by exactly what its page's bytes change
pub exactly_changed : (sums memory later : List ℕ) (p : ℕ) → p < length sums
    → let sum = get_or (sums_after sums memory later) p 0 in
    (sum < sum_modulus) × ((sum + page_sum p memory) % sum_modulus ≡ (sum_at sums p + page_sum p later) % sum_modulus)
exactly_changed sums memory later p h =
    let e = sum_after_lem 0 sums memory later p h in (
      rw e (changed_below (sum_at sums p) (page_sum p memory) (page_sum p later)),
      rw e (changed_exactly (sum_at sums p) (page_sum p memory) (page_sum p later)),
    )

-- and no other list of as many sums below 65,536 does
pub alone_changed : (sums memory later l : List ℕ) → length l ≡ length sums
    → ((p : ℕ) → p < length sums
    → (sum_at l p < sum_modulus) × ((sum_at l p + page_sum p memory) % sum_modulus
    ≡ (sum_at sums p + page_sum p later) % sum_modulus))
    → l ≡ sums_after sums memory later
alone_changed sums memory later l n h =
    sums_are 0 sums memory later l n
    (λ p i. changed_alone (sum_at sums p) (page_sum p memory) (page_sum p later) (sum_at l p) (h p i).0 (h p i).1)

-- right before, right after
pub right_after : (sums memory later : List ℕ) → Right sums memory → Right (sums_after sums memory later) later
right_after sums memory later right p h =
    let i : p < length sums = omega (arith, sums_length 0 sums memory later) in
    sum_after_lem 0 sums memory later p i ∙ rw (right p i) (changed_right (page_sum p memory) (page_sum p later))

-- zeros beside a memory of zeros are right
zeros_sum : (p address n : ℕ) → part_sum p address (replicate n 0) ≡ 0
unfolding part_sum
zeros_sum p address zero = refl
zeros_sum p address (suc n) = by_page (eqb (page_of address) p) (zeros_sum p (address + 1) n)
  where
    by_page : (t : Bool) → part_sum p (address + 1) (replicate n 0) ≡ 0
        → cond t 0 0 + part_sum p (address + 1) (replicate n 0) ≡ 0
    by_page true e = omega arith
    by_page false e = omega arith

pub zeros_right : (n m : ℕ) → Right (replicate n 0) (replicate m 0)
zeros_right n m p h =
    let i : p < n = omega (arith, length-replicate n (zero)) in get_or-replicate n p 0 0 i ∙ rw (zeros_sum p 0 m)

-- a byte that was 10h and becomes 05h, beside a sum of 0
pub wrong_sum : sum_changed 0 0x10 0x05 ≡ 65525
unfolding sum_changed
wrong_sum = refl
