-- Laws of latch values that fit: document 02's text as two inequalities, and the fewest clocks that are enough, which
-- decide.
use mathlib.Core.Path.{◌≡◌, refl, sym, ap, ◌∙◌}
use mathlib.Core.Bool.{Bool, true, false, ◌||◌, cond, false≢true}
use mathlib.Core.Logic.{◌↔◌}
use Prim.Native.Nat.{ℕ, zero, suc, ◌+◌, ◌-◌, ◌*◌, ◌/◌, ◌≤◌, ◌<◌}
use native.Mathlib.Nat.{eq_of_mul-eq-mul_left, mul_assoc, mul_comm, zero-mul, add-mul, mul-sub, mul-pos, mul-le-mul}
use native.Mathlib.Nat.{mul-le-mul_left, lt-div-mul-add, div-lt_iff_lt-mul}
use native.Mathlib.Omega.{arith}
use lib.Dec.{ltb, eqb}
use borrow.Author.Tests.{leb-true, le-leb, ltb-false, eqb-false}
use Rattle.std.specs.Prelude.{Some, None}
use Rattle.bit_rate.specs.BitRate.{difference, fits, highest_latch, highest_rate, highest_tolerance, out_of_limits}
use Rattle.bit_rate.specs.BitRate.{first_fit}

-- a test that does not hold
never : (b : Bool) → (b ≡ true → ⊥) → b ≡ false
never true h = absurd (h refl)
never false h = refl

-- ---- the first that fits

-- where K fits and none before it, of values that reach up to it
pub first_fits : (f b t more N K : ℕ) → N ≤ K → K < N + more → fits f b t K ≡ true
    → ((M : ℕ) → N ≤ M → M < K → fits f b t M ≡ false) → first_fit f b t more N ≡ Some K
unfolding first_fit
first_fits f b t zero N K from upto e before = absurd (omega arith)
first_fits f b t (suc more) N K from upto e before =
    here (fits f b t N) refl (λ h. first_fits f b t more (suc N) K h (omega arith) e (λ M l. before M (omega arith)))
  where
    here : (test : Bool) → fits f b t N ≡ test → (suc N ≤ K → first_fit f b t more (suc N) ≡ Some K)
        → cond test (Some N) (first_fit f b t more (suc N)) ≡ Some K
    here true h later =
        let earlier : N < K → ⊥ = λ l. false≢true (sym (before N (omega arith) l) ∙ h) in
        let same : N ≡ K = omega arith in
        ap Some same
    here false h later =
        let other : N ≡ K → ⊥ = λ s. false≢true (sym h ∙ ap (fits f b t) s ∙ e) in
        later (omega arith)

-- where none of them fits
pub first_none : (f b t more N : ℕ) → ((M : ℕ) → N ≤ M → M < N + more → fits f b t M ≡ false)
    → first_fit f b t more N ≡ None
unfolding first_fit
first_none f b t zero N none = refl
first_none f b t (suc more) N none =
    rw (none N (omega arith) (omega arith))
    (first_none f b t more (suc N) (λ M from upto. none M (omega arith) (omega arith)))

-- ---- the limits

-- neither of two tests holds
neither : (a b : Bool) → (a || b) ≡ false → (a ≡ false) × (b ≡ false)
neither true b e = absurd (false≢true (sym e))
neither false b e = (refl, e)

-- figures that are not refused
pub record Within (f b t : ℕ) : Type 0 where
  pub clocked : 0 < f
  pub sent : 0 < b
  pub most_clocked : f ≤ highest_rate
  pub most_sent : b ≤ highest_rate
  pub most_tolerated : t ≤ highest_tolerance

positive : (n : ℕ) → eqb n 0 ≡ false → 0 < n
positive n e = let other = eqb-false n 0 e in omega arith

pub within : (f b t : ℕ) → out_of_limits f b t ≡ false → Within f b t
unfolding out_of_limits
within f b t e =
    let tolerance = neither (eqb f 0 || eqb b 0 || ltb highest_rate f || ltb highest_rate b) (ltb highest_tolerance t) e in
    let bits = neither (eqb f 0 || eqb b 0 || ltb highest_rate f) (ltb highest_rate b) tolerance.0 in
    let clocks = neither (eqb f 0 || eqb b 0) (ltb highest_rate f) bits.0 in
    let rates = neither (eqb f 0) (eqb b 0) clocks.0 in
    record {
      clocked = positive f rates.0;
      sent = positive b rates.1;
      most_clocked = ltb-false highest_rate f clocks.1;
      most_sent = ltb-false highest_rate b bits.1;
      most_tolerated = ltb-false highest_tolerance t tolerance.1;
    }

-- ---- the two inequalities, of the M = N + 1 clocks of an underflow

abbrev pub NotTooFast : ℕ → ℕ → ℕ → ℕ → Type 0
NotTooFast f b t M = 1000 * f ≤ (1000 + t) * 16 * b * M

abbrev pub NotTooSlow : ℕ → ℕ → ℕ → ℕ → Type 0
NotTooSlow f b t M = (1000 - t) * 16 * b * M ≤ 1000 * f

-- a factor times 16 × b × M, with the factors grouped in three ways
in_turn : (k b M : ℕ) → k * 16 * b * M ≡ k * (16 * b * M)
in_turn k b M = simp mul_assoc

by_bit : (k b M : ℕ) → k * 16 * b * M ≡ k * (16 * b) * M
by_bit k b M = simp mul_assoc

sum_times : (t w : ℕ) → (1000 + t) * w ≡ 1000 * w + t * w
sum_times t w = add-mul 1000 t w

less_times : (t w : ℕ) → (1000 - t) * w ≡ 1000 * w - t * w
less_times t w = mul_comm (1000 - t) w ∙ mul-sub w 1000 t ∙ rw (mul_comm w 1000, mul_comm w t)

-- where p is the tolerated difference
two_sided : (f w p : ℕ) → (difference f w * 1000 ≤ p) ↔ ((1000 * f ≤ 1000 * w + p) × (1000 * w - p ≤ 1000 * f))
two_sided f w p = (λ h. (omega arith, omega arith), λ h. omega (arith, h.0, h.1))

-- 02's text just where both inequalities hold
pub fits_both : (f b t N : ℕ) → (fits f b t N ≡ true) ↔ (NotTooFast f b t (N + 1) × NotTooSlow f b t (N + 1))
unfolding fits
fits_both f b t N =
    let M = N + 1 in
    let w = 16 * b * M in
    let p = t * 16 * b * M in
    let faster : (1000 + t) * 16 * b * M ≡ 1000 * w + p = in_turn (1000 + t) b M ∙ sum_times t w ∙ rw (in_turn t b M) in
    let slower : (1000 - t) * 16 * b * M ≡ 1000 * w - p =
    in_turn (1000 - t) b M ∙ less_times t w ∙ rw (in_turn t b M) in (
      λ e. let h = (two_sided f w p).0 (leb-true _ _ e) in (omega (arith, faster, h.0), omega (arith, slower, h.1)),
      λ h. le-leb _ _ ((two_sided f w p).1 (omega (arith, faster, h.0), omega (arith, slower, h.1))),
    )

-- with no tolerance two latch values that fit are one
pub exact_alone : (f b N K : ℕ) → 0 < b → fits f b 0 N ≡ true → fits f b 0 K ≡ true → K ≡ N
exact_alone f b N K h n k =
    let one = (fits_both f b 0 N).0 n in
    let other = (fits_both f b 0 K).0 k in
    let same = eq_of_mul-eq-mul_left (16000 * b) (omega arith) (K + 1) (N + 1)
    (omega (arith, one.0, one.1, other.0, other.1)) in
    omega arith

-- ---- a quotient rounded up

module _ (a d : ℕ) (h : 0 < d) where
  -- it is enough, and nothing below it is
  pub up_enough : a ≤ (a + d - 1) / d * d
  up_enough = omega (arith, lt-div-mul-add {a = a + d - 1} {b = d} h)

  pub up_least : (m : ℕ) → a ≤ m * d → (a + d - 1) / d ≤ m
  up_least m e =
      let l : a + d - 1 < (m + 1) * d = omega (arith, add-mul m 1 d) in
      omega (arith, (div-lt_iff_lt-mul {k = d} {x = a + d - 1} {y = m + 1} h).1 l)

-- ---- the fewest clocks that are not too fast decide

-- the clocks of an underflow that the code works out
abbrev pub fewest : ℕ → ℕ → ℕ → ℕ
fewest f b t = (1000 * f + (1000 + t) * (16 * b) - 1) / ((1000 + t) * (16 * b))

module _ (f b t : ℕ) (inside : Within f b t) where
  pub most_positive : 0 < (1000 + t) * (16 * b)
  most_positive = mul-pos {m = 1000 + t} {n = 16 * b} (omega arith) (omega (arith, inside.sent))

  fewest_enough : 1000 * f ≤ fewest f b t * ((1000 + t) * (16 * b))
  fewest_enough = up_enough (1000 * f) ((1000 + t) * (16 * b)) most_positive

  fast_enough : NotTooFast f b t (fewest f b t)
  fast_enough =
      omega (arith, by_bit (1000 + t) b (fewest f b t), mul_comm (fewest f b t) ((1000 + t) * (16 * b)), fewest_enough)

  pub fewest_positive : 0 < fewest f b t
  fewest_positive = some (fewest f b t) fewest_enough
    where
      some : (m : ℕ) → 1000 * f ≤ m * ((1000 + t) * (16 * b)) → 0 < m
      some zero e = absurd (omega (arith, zero-mul ((1000 + t) * (16 * b)), inside.clocked))
      some (suc m) e = omega arith

  -- no fewer clocks are not too fast
  fewest_least : (N : ℕ) → NotTooFast f b t (N + 1) → fewest f b t ≤ N + 1
  fewest_least N h =
      up_least (1000 * f) ((1000 + t) * (16 * b)) most_positive (N + 1)
      (omega (arith, h, by_bit (1000 + t) b (N + 1), mul_comm (N + 1) ((1000 + t) * (16 * b))))

  -- they fit where they are not too slow
  pub fewest_fits : (1000 - t) * (16 * b) * fewest f b t ≤ 1000 * f → fits f b t (fewest f b t - 1) ≡ true
  fewest_fits h =
      let back : fewest f b t - 1 + 1 ≡ fewest f b t = omega (arith, fewest_positive) in
      (fits_both f b t (fewest f b t - 1)).1
      (rw back (fast_enough, omega (arith, h, by_bit (1000 - t) b (fewest f b t))))

  -- a latch value that fits has no fewer
  fitting : (N : ℕ) → fits f b t N ≡ true → (fewest f b t ≤ N + 1) × ((1000 - t) * (16 * b) * (N + 1) ≤ 1000 * f)
  fitting N e =
      let both = (fits_both f b t N).0 e in
      (fewest_least N both.0, omega (arith, both.1, by_bit (1000 - t) b (N + 1)))

  -- none below them fits
  pub none_below : (N : ℕ) → N < fewest f b t - 1 → fits f b t N ≡ false
  none_below N h = never (fits f b t N) (λ e. let l = (fitting N e).0 in omega arith)

  -- no latch value fits where the fewest clocks are more than a latch can make, or are too slow
  pub none_beyond : highest_latch + 1 < fewest f b t → (N : ℕ) → N ≤ highest_latch → fits f b t N ≡ false
  none_beyond h N most = never (fits f b t N) (λ e. let l = (fitting N e).0 in omega arith)

  pub none_slow : 1000 * f < (1000 - t) * (16 * b) * fewest f b t → (N : ℕ) → N ≤ highest_latch → fits f b t N ≡ false
  none_slow h N most =
      never (fits f b t N)
      (λ e.
      let both = fitting N e in
      omega (arith, both.1, h, mul-le-mul_left {m = fewest f b t} {n = N + 1} ((1000 - t) * (16 * b)) both.0))

  -- 64 bits hold what the code works out
  pub most_bounded : (1000 + t) * (16 * b) ≤ 2000 * 160000000
  most_bounded =
      mul-le-mul {n₁ = 1000 + t} {m₁ = 16 * b} {n₂ = 2000} {m₂ = 160000000} (omega (arith, inside.most_tolerated))
      (omega (arith, inside.most_sent))

  pub least_bounded : (1000 - t) * (16 * b) ≤ 1000 * 160000000
  least_bounded =
      mul-le-mul {n₁ = 1000 - t} {m₁ = 16 * b} {n₂ = 1000} {m₂ = 160000000} (omega arith)
      (omega (arith, inside.most_sent))

  pub slow_bounded : fewest f b t ≤ highest_latch + 1 → (1000 - t) * (16 * b) * fewest f b t ≤ 1000 * 160000000 * 65536
  slow_bounded h =
      mul-le-mul {n₁ = (1000 - t) * (16 * b)} {m₁ = fewest f b t} {n₂ = 1000 * 160000000} {m₂ = 65536} least_bounded
      (omega arith)

  -- ---- what the code gives

  pub latch_beyond : highest_latch + 1 < fewest f b t → first_fit f b t (highest_latch + 1) 0 ≡ None
  latch_beyond h = first_none f b t (highest_latch + 1) 0 (λ N from upto. none_beyond h N (omega arith))

  pub latch_slow : 1000 * f < (1000 - t) * (16 * b) * fewest f b t → first_fit f b t (highest_latch + 1) 0 ≡ None
  latch_slow h = first_none f b t (highest_latch + 1) 0 (λ N from upto. none_slow h N (omega arith))

  pub latch_fits : fewest f b t ≤ highest_latch + 1 → (1000 - t) * (16 * b) * fewest f b t ≤ 1000 * f
      → first_fit f b t (highest_latch + 1) 0 ≡ Some (fewest f b t - 1)
  latch_fits most h =
      first_fits f b t (highest_latch + 1) 0 (fewest f b t - 1) (omega arith) (omega (arith, fewest_positive))
      (fewest_fits h) (λ N from upto. none_below N upto)
