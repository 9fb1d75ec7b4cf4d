-- A change of a machine's world that plain clocks, gaps and counts do not see: it may be made before a run or after it.
use mathlib.Core.Path.{◌≡◌, refl, sym, ap, ◌∙◌}
use mathlib.Core.Bool.{Bool, true, false, ◌&&◌}
use Prim.Native.Nat.{ℕ, zero, suc, ◌+◌}
use lib.Dec.{ltb}
use Rattle.bits.proofs.Cond.{cond_along}
use Rattle.leaps.specs.Leaps.{System, Run, plains, leap_of, moved_of, left_after, leaps_of, run}

pub record Unaffected {W : Type 0} (S : System W) (f : W → W) : Type 0 where
  pub plain : (w : W) → S.plain (f w) ≡ f (S.plain w)
  pub pass : (g : ℕ) (w : W) → S.pass g (f w) ≡ f (S.pass g w)
  pub gap : (n : ℕ) (w : W) → S.gap n (f w) ≡ S.gap n w
  pub running : (w : W) → S.running (f w) ≡ S.running w
  pub clock : (w : W) → S.clock (f w) ≡ S.clock w

module _ {W : Type 0} (S : System W) (f : W → W) (k : Unaffected S f) where
  pub plains_along : (n : ℕ) (w : W) → plains S n (f w) ≡ f (plains S n w)
  unfolding plains
  plains_along zero w = refl
  plains_along (suc n) w = ap (plains S n) (k.plain w) ∙ plains_along n (S.plain w)

  leap_along : (n : ℕ) (w : W) → leap_of S n (f w) ≡ f (leap_of S n w)
  unfolding leap_of
  leap_along n w =
      let v = S.pass (S.gap n w) w in
      rw (k.gap n w, k.pass (S.gap n w) w)
      (sym (cond_along f (ltb (S.gap n w) n) (S.plain v) v (sym (k.plain v)) refl))

  pub moved_along : (w v : W) → moved_of S (f w) (f v) ≡ moved_of S w v
  unfolding moved_of
  moved_along w v = simp (k.clock, k.running)

  -- the run from there, and its count
  abbrev along : Run W → Run W
  along r = record { world = f r.world; leaps = r.leaps }

  leaps_along : (most n : ℕ) (w : W) → leaps_of S most n (f w) ≡ along (leaps_of S most n w)
  unfolding leaps_of
  leaps_along zero n w = refl
  leaps_along (suc most) n w = again (ltb 0 n && S.running w) refl (leaps_along most (left_after S n w) (leap_of S n w))
    where
      again : (b : Bool) → (ltb 0 n && S.running w) ≡ b
          → leaps_of S most (left_after S n w) (f (leap_of S n w))
          ≡ along (leaps_of S most (left_after S n w) (leap_of S n w))
          → leaps_of S (suc most) n (f w) ≡ along (leaps_of S (suc most) n w)
      again true e later =
          let l = leaps_of S most (left_after S n w) (leap_of S n w) in
          rw (k.running w, e, leaps_of, k.gap n w, leap_along n w, later)
          (ap {B = Run W} (λ (m : ℕ). record { world = f l.world; leaps = m + l.leaps })
          (moved_along w (leap_of S n w)))
      again false e later = rw (k.running w, e, leaps_of)

  pub run_along : (n : ℕ) (w : W) → run S n (f w) ≡ record { world = f (run S n w).world; leaps = (run S n w).leaps }
  unfolding run
  run_along n w = leaps_along n n w
