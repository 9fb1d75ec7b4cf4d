-- What document 02, U2, promises of an answer, as laws of the smallest latch value; its examples and U9's, and those at
-- its limits, in one table under one theorem.
use mathlib.Core.Path.{◌≡◌, refl, sym, ap, ◌∙◌}
use mathlib.Core.Bool.{Bool, true, false, cond, false≢true}
use mathlib.Core.Logic.{◌↔◌}
use Prim.Native.Nat.{ℕ, zero, suc, ◌+◌, ◌-◌, ◌*◌, ◌≤◌, ◌<◌}
use native.Mathlib.Omega.{arith}
use lib.Dec.{lit<, lit≤}
use Rattle.std.specs.Prelude.{Option, Some, None, Ok, Err}
use Rattle.bit_rate.specs.BitRate.{fits, highest_latch, out_of_limits, first_fit, Found, refused, latch_for, latch_number}
use Rattle.bit_rate.proofs.Laws.{within, fewest, latch_fits, latch_beyond, latch_slow}

-- what is promised of an answer: a latch value fits and none below it does, none means that no value does, a refusal
-- that a rate is 0 or a figure above its limit
unfoldable pub Promised : ℕ → ℕ → ℕ → Found → Type 0
Promised f b t (Ok (Some N)) =
    (out_of_limits f b t ≡ false) × (N ≤ highest_latch) × (fits f b t N ≡ true) × ((M : ℕ) → M < N → fits f b t M ≡ false)
Promised f b t (Ok None) = (out_of_limits f b t ≡ false) × ((N : ℕ) → N ≤ highest_latch → fits f b t N ≡ false)
Promised f b t (Err _) = out_of_limits f b t ≡ true

-- what is found below `top`: the first value that fits, or none
unfoldable pub FoundBelow : ℕ → ℕ → ℕ → ℕ → Option ℕ → Type 0
FoundBelow f b t top (Some N) = (N < top) × (fits f b t N ≡ true) × ((M : ℕ) → M < N → fits f b t M ≡ false)
FoundBelow f b t top None = (N : ℕ) → N < top → fits f b t N ≡ false

below_next : (f b t N : ℕ) → ((M : ℕ) → M < N → fits f b t M ≡ false) → fits f b t N ≡ false → (M : ℕ) → M < suc N
    → fits f b t M ≡ false
below_next f b t N before h M l = at (fits f b t M) refl
  where
    at : (test : Bool) → fits f b t M ≡ test → fits f b t M ≡ false
    at true e =
        let earlier : M < N → ⊥ = λ k. false≢true (sym (before M k) ∙ e) in
        let same : M ≡ N = omega arith in
        absurd (false≢true (sym h ∙ ap (fits f b t) (sym same) ∙ e))
    at false e = e

pub first_found : (f b t more N top : ℕ) → N + more ≡ top → ((M : ℕ) → M < N → fits f b t M ≡ false)
    → FoundBelow f b t top (first_fit f b t more N)
unfolding first_fit FoundBelow
first_found f b t zero N top s before = λ M l. before M (omega arith)
first_found f b t (suc more) N top s before =
    here (fits f b t N) refl (λ h. first_found f b t more (suc N) top (omega arith) (below_next f b t N before h))
  where
    here : (test : Bool) → fits f b t N ≡ test
        → (fits f b t N ≡ false → FoundBelow f b t top (first_fit f b t more (suc N)))
        → FoundBelow f b t top (cond test (Some N) (first_fit f b t more (suc N)))
    here true h later = (omega arith, h, before)
    here false h later = later h

promised : (f b t : ℕ) → out_of_limits f b t ≡ false → (found : Option ℕ)
    → FoundBelow f b t (highest_latch + 1) found → Promised f b t (Ok found)
unfolding FoundBelow Promised
promised f b t allowed (Some N) h = (allowed, omega (arith, h.0), h.1, h.2)
promised f b t allowed None h = (allowed, λ N l. h N (omega arith))

-- 02, U2's promise, and U9's
pub latch_promised : (f b t : ℕ) → Promised f b t (latch_for f b t)
unfolding latch_for Promised
latch_promised f b t = at (out_of_limits f b t) refl
  where
    at : (test : Bool) → out_of_limits f b t ≡ test
        → Promised f b t (cond test refused (Ok (first_fit f b t (highest_latch + 1) 0)))
    at true e = e
    at false e =
        promised f b t e (first_fit f b t (highest_latch + 1) 0)
        (first_found f b t (highest_latch + 1) 0 (highest_latch + 1) (omega arith) (λ M l. absurd (omega arith)))

-- number 11 just where a rate is 0 or a figure is above its limit
pub refused_just : (f b t : ℕ) → (latch_number (latch_for f b t) ≡ 11) ↔ (out_of_limits f b t ≡ true)
unfolding Promised
refused_just f b t = by (latch_for f b t) (latch_promised f b t)
  where
    by : (r : Found) → Promised f b t r → (latch_number r ≡ 11) ↔ (out_of_limits f b t ≡ true)
    by (Ok (Some N)) h = (λ e. absurd (omega arith), λ e. absurd (false≢true (sym h.0 ∙ e)))
    by (Ok None) h = (λ e. absurd (omega arith), λ e. absurd (false≢true (sym h.0 ∙ e)))
    by (Err _) h = (λ e. h, λ e. refl)

-- ---- examples

module _ (f b t : ℕ) (allowed : out_of_limits f b t ≡ false) where
  found : fewest f b t ≤ highest_latch + 1 → (1000 - t) * (16 * b) * fewest f b t ≤ 1000 * f
      → latch_for f b t ≡ Ok (Some (fewest f b t - 1))
  unfolding latch_for
  found most h = rw (allowed, latch_fits f b t (within f b t allowed) most h) refl

  none_beyond : highest_latch + 1 < fewest f b t → latch_for f b t ≡ Ok None
  unfolding latch_for
  none_beyond h = rw (allowed, latch_beyond f b t (within f b t allowed) h) refl

  none_slow : 1000 * f < (1000 - t) * (16 * b) * fewest f b t → latch_for f b t ≡ Ok None
  unfolding latch_for
  none_slow h = rw (allowed, latch_slow f b t (within f b t allowed) h) refl

pub record Examples : Type 0 where
  -- 02, U2: "1,000,000, 62,500 and 0 give 0"
  pub exact : latch_for 1000000 62500 0 ≡ Ok (Some 0)
  -- "1,000,000, 9,600 and 20 give none"
  pub none : latch_for 1000000 9600 20 ≡ Ok None
  -- U9: "For 1,000,000, 9,600 and 90 both 5 and 6 fit, so the answer is 5."
  pub both_fit : (fits 1000000 9600 90 5 ≡ true) × (fits 1000000 9600 90 6 ≡ true)
  pub smallest : latch_for 1000000 9600 90 ≡ Ok (Some 5)
  -- the highest latch value, and one clock more a tick than it makes
  pub highest : latch_for 1048576 1 0 ≡ Ok (Some 65535)
  pub above_highest : latch_for 1048592 1 0 ≡ Ok None
  -- the whole tolerance: any rate down to 0 is near enough, twice the rate is not exceeded
  pub too_fast : latch_for 10000000 1 1000 ≡ Ok None
  pub slow : latch_for 1 10000000 1000 ≡ Ok (Some 0)
  pub too_slow : latch_for 1 10000000 999 ≡ Ok None
  -- "(11: f or b is 0, or a figure is above its limit ..)"
  pub no_clock : latch_for 0 1 0 ≡ refused
  pub no_rate : latch_for 1 0 0 ≡ refused
  pub clock_above : latch_for 10000001 1 0 ≡ refused
  pub rate_above : latch_for 1 10000001 0 ≡ refused
  pub tolerance_above : latch_for 1 1 1001 ≡ refused

pub examples : Examples
unfolding latch_for fits out_of_limits
examples = record {
  exact = found 1000000 62500 0 refl (lit≤ tt) (lit≤ tt);
  none = none_slow 1000000 9600 20 refl (lit< tt);
  both_fit = (refl, refl);
  smallest = found 1000000 9600 90 refl (lit≤ tt) (lit≤ tt);
  highest = found 1048576 1 0 refl (lit≤ tt) (lit≤ tt);
  above_highest = none_beyond 1048592 1 0 refl (lit< tt);
  too_fast = none_beyond 10000000 1 1000 refl (lit< tt);
  slow = found 1 10000000 1000 refl (lit≤ tt) (lit≤ tt);
  too_slow = none_slow 1 10000000 999 refl (lit< tt);
  no_clock = refl;
  no_rate = refl;
  clock_above = refl;
  rate_above = refl;
  tolerance_above = refl;
}
