-- Laws of choices by a test.
use mathlib.Core.Path.{◌≡◌, refl, sym}
use mathlib.Core.Bool.{Bool, true, false, ◌&&◌, ◌||◌, not, cond, beq, false≢true}
use Prim.Native.Nat.{◌≤◌, ◌+◌}
use lib.Dec.{T, lit≤}
use Rattle.bits.specs.Bits.{one_where}

-- what holds of both ways holds of the choice; each way may use how the test came out
pub cond_both : {A : Type 0} (P : A → Type 0) (t : Bool) (x y : A) → (t ≡ true → P x) → (t ≡ false → P y)
    → P (cond t x y)
cond_both P true x y h k = h refl
cond_both P false x y h k = k refl

-- a choice whose test is known
pub cond_yes : {A : Type 0} (t : Bool) (x y : A) → t ≡ true → cond t x y ≡ x
cond_yes t x y e = rw e

pub cond_no : {A : Type 0} (t : Bool) (x y : A) → t ≡ false → cond t x y ≡ y
cond_no t x y e = rw e

-- a function of a choice is the choice of its values
pub cond_map : {A B : Type 0} (f : A → B) (t : Bool) (x y : A) → f (cond t x y) ≡ cond t (f x) (f y)
cond_map f true x y = refl
cond_map f false x y = refl

-- a function of a choice, way by way
pub cond_along : {A B : Type 0} (f : A → B) (t : Bool) (x y : A) {u v : B} → f x ≡ u → f y ≡ v
    → f (cond t x y) ≡ cond t u v
cond_along f true x y e g = e
cond_along f false x y e g = g

pub both_left : (a b : Bool) → T (a && b) → T a
both_left true b t = tt
both_left false b t = t

pub both_right : (a b : Bool) → T (a && b) → T b
both_right true b t = t
both_right false b t = absurd t

-- two tests that are found equal are equal
pub equal : (a b : Bool) → T (beq a b) → a ≡ b
equal true true t = refl
equal true false t = absurd t
equal false true t = absurd t
equal false false t = refl

pub one_where_le : (b : Bool) → one_where b ≤ 1
one_where_le true = lit≤ tt
one_where_le false = lit≤ tt

pub one_where_not : (b : Bool) → one_where b + one_where (not b) ≡ 1
one_where_not true = refl
one_where_not false = refl

-- a conjunction of tests, taken apart and made
pub and_left : (a b : Bool) → (a && b) ≡ true → a ≡ true
and_left true b e = refl
and_left false b e = e

pub and_right : (a b : Bool) → (a && b) ≡ true → b ≡ true
and_right true b e = e
and_right false b e = absurd (false≢true e)

pub and_both : (a b : Bool) → a ≡ true → b ≡ true → (a && b) ≡ true
and_both a b e f = rw (e, f)

pub either_false : (p q : Bool) → (p || q) ≡ false → (p ≡ false) × (q ≡ false)
either_false true q e = absurd (false≢true (sym e))
either_false false q e = (refl, e)
