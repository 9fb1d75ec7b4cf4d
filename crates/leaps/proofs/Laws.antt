-- A run of n clocks is n plain clocks, and its leaps are as many as document 01 says, of every machine that keeps the
-- laws below.
use mathlib.Core.Path.{◌≡◌, refl, sym, ap, ap₂, ◌∙◌, subst}
use mathlib.Core.Bool.{Bool, true, false, cond, ◌&&◌, false≢true}
use mathlib.Core.List.{List, [], ◌∷◌}
use Prim.Native.Nat.{ℕ, zero, suc, ◌+◌, ◌-◌, ◌<◌, ◌≤◌, min}
use native.Mathlib.Nat.{zero-add, add-zero, add_assoc, suc-add}
use native.Mathlib.Omega.{arith}
use lib.Dec.{ltb, eqb}
use borrow.Author.Tests.{ltb-true, ltb-false, lt-ltb, le-ltb, eqb-true, eqb-false}
use Rattle.bits.proofs.Cond.{and_left, and_right, one_where_not}
use Rattle.leaps.specs.Leaps.{System, events_in, quiet_end, plains, leap_of, moved_of, left_after, leaps_of, run, trace}
use Rattle.leaps.specs.Leaps.{leap_count, leading_quiet, ByLeaps, no_leap, one_more}

-- what is asked of a machine
pub record Lawful {W : Type 0} (S : System W) : Type 0 where
  -- "Each, after a stop, does nothing."
  pub stopped_plain : (w : W) → S.running w ≡ false → S.plain w ≡ w
  pub stopped_done : (w : W) → S.running w ≡ false → S.done w ≡ false
  -- a clock that is done is counted; one that is not stops and is not counted. A clock may be done and then stop
  pub done_clock : (w : W) → S.done w ≡ true → S.clock (S.plain w) ≡ S.clock w + 1
  pub undone_clock : (w : W) → S.done w ≡ false → S.clock (S.plain w) ≡ S.clock w
  pub undone_stops : (w : W) → S.done w ≡ false → S.running (S.plain w) ≡ false
  -- the first clock of a gap is done, is no event clock, and is a gap of one clock passed
  pub quiet_plain : (n : ℕ) (w : W) → S.running w ≡ true → 0 < S.gap n w → S.plain w ≡ S.pass 1 w
  pub quiet_done : (n : ℕ) (w : W) → S.running w ≡ true → 0 < S.gap n w → S.done w ≡ true
  pub quiet_event : (n : ℕ) (w : W) → 0 < S.gap n w → S.event w ≡ false
  -- "at most those left", and one clock nearer with each clock
  pub gap_le : (n : ℕ) (w : W) → S.gap n w ≤ n
  pub gap_passed : (g n : ℕ) (w : W) → S.gap (n - g) (S.pass g w) ≡ S.gap n w - g
  -- gaps passed add up, "clock plus gap", and nothing stops
  pub pass_zero : (w : W) → S.pass 0 w ≡ w
  pub pass_add : (g h : ℕ) (w : W) → S.pass h (S.pass g w) ≡ S.pass (g + h) w
  pub pass_running : (g : ℕ) (w : W) → S.running (S.pass g w) ≡ S.running w
  pub pass_clock : (g : ℕ) (w : W) → S.clock (S.pass g w) ≡ S.clock w + g

-- no clock is left, or something has stopped
none_left : (n : ℕ) (running : Bool) → (ltb 0 n && running) ≡ false → running ≡ true → n ≡ 0
none_left n running e z = omega (arith, ltb-false 0 n (only (ltb 0 n) running e z))
  where
    only : (a b : Bool) → (a && b) ≡ false → b ≡ true → a ≡ false
    only true b e z = absurd (false≢true (sym e ∙ z))
    only false b e z = refl

-- g clocks that are no event clocks, then others
abbrev quiets : ℕ → List Bool → List Bool
quiets zero later = later
quiets (suc g) later = false ∷ quiets g later

events_quiets : (g : ℕ) (later : List Bool) → events_in (quiets g later) ≡ events_in later
unfolding events_in
events_quiets zero later = refl
events_quiets (suc g) later = zero-add (events_in (quiets g later)) ∙ events_quiets g later

leading_quiets : (g : ℕ) (later : List Bool) → leading_quiet (quiets g later) ≡ g + leading_quiet later
unfolding leading_quiet
leading_quiets zero later = sym (zero-add (leading_quiet later))
leading_quiets (suc g) later = ap suc (leading_quiets g later) ∙ sym (suc-add g (leading_quiet later))

end_quiets : (g : ℕ) (event : Bool) (later : List Bool) → quiet_end (quiets g (event ∷ later)) ≡ quiet_end (event ∷ later)
unfolding quiet_end
end_quiets zero event later = refl
end_quiets (suc zero) event later = refl
end_quiets (suc (suc g)) event later = end_quiets (suc g) event later

end_all : (g : ℕ) → quiet_end (quiets g []) ≡ min 1 g
unfolding quiet_end
end_all zero = omega arith
end_all (suc zero) = omega arith
end_all (suc (suc g)) = end_all (suc g) ∙ omega arith

end_event : (later : List Bool) → quiet_end (true ∷ later) ≡ quiet_end later
unfolding quiet_end
end_event [] = refl
end_event (event ∷ later) = refl

module _ {W : Type 0} (S : System W) (L : Lawful S) where
  pub plains_add : (m n : ℕ) (w : W) → plains S (m + n) w ≡ plains S n (plains S m w)
  unfolding plains
  plains_add zero n w = rw zero-add
  plains_add (suc m) n w = rw suc-add (plains_add m n (S.plain w))

  plains_one : (w : W) → plains S 1 w ≡ S.plain w
  unfolding plains
  plains_one w = refl

  plains_none : (n : ℕ) (w : W) → n ≡ 0 → plains S n w ≡ w
  unfolding plains
  plains_none n w z = rw z

  pub plains_stopped : (n : ℕ) (w : W) → S.running w ≡ false → plains S n w ≡ w
  unfolding plains
  plains_stopped zero w e = refl
  plains_stopped (suc n) w e = rw (L.stopped_plain w e) (plains_stopped n w e)

  -- a gap passed, or a part of it, is that many plain clocks
  pub plains_pass : (g n : ℕ) (w : W) → S.running w ≡ true → g ≤ S.gap n w → plains S g w ≡ S.pass g w
  unfolding plains
  plains_pass zero n w z h = sym (L.pass_zero w)
  plains_pass (suc g) n w z h =
      rw (L.quiet_plain n w z (omega arith))
      (plains_pass g (n - 1) (S.pass 1 w) (L.pass_running 1 w ∙ z) (omega (arith, L.gap_passed 1 n w))
      ∙ L.pass_add 1 g w ∙ ap (λ (k : ℕ). S.pass k w) (omega arith))

  -- one leap is as many plain clocks as its gap has, and one more, or as many as are left. If that clock stops, it is
  -- still plain
  pub leap_plain : (n : ℕ) (w : W) → S.running w ≡ true → leap_of S n w ≡ plains S (min n (S.gap n w + 1)) w
  unfolding leap_of plains
  leap_plain n w z = reached (ltb (S.gap n w) n) refl
    where
      reached : (b : Bool) → ltb (S.gap n w) n ≡ b
          → cond b (S.plain (S.pass (S.gap n w) w)) (S.pass (S.gap n w) w) ≡ plains S (min n (S.gap n w + 1)) w
      reached true e =
          let h = ltb-true (S.gap n w) n e in
          let k : min n (S.gap n w + 1) ≡ S.gap n w + 1 = omega arith in
          rw (k, plains_add, plains_pass (S.gap n w) n w z (omega arith))
      reached false e =
          let h = ltb-false (S.gap n w) n e in
          let k : min n (S.gap n w + 1) ≡ S.gap n w = omega (arith, L.gap_le n w) in
          rw (k, plains_pass (S.gap n w) n w z (omega arith))

  -- ---- leaps repeated

  over_plain : (n : ℕ) (w : W) → (ltb 0 n && S.running w) ≡ false → plains S n w ≡ w
  over_plain n w e = still (S.running w) refl
    where
      still : (b : Bool) → S.running w ≡ b → plains S n w ≡ w
      still true z = plains_none n w (none_left n (S.running w) e z)
      still false z = plains_stopped n w z

  leaps_plain : (most n : ℕ) (w : W) → n ≤ most → (leaps_of S most n w).world ≡ plains S n w
  unfolding leaps_of
  leaps_plain zero n w h = sym (plains_none n w (omega arith))
  leaps_plain (suc most) n w h =
      again (ltb 0 n && S.running w) refl (leaps_plain most (left_after S n w) (leap_of S n w))
    where
      again : (b : Bool) → (ltb 0 n && S.running w) ≡ b
          → (left_after S n w ≤ most
          → (leaps_of S most (left_after S n w) (leap_of S n w)).world ≡ plains S (left_after S n w) (leap_of S n w))
          → (leaps_of S (suc most) n w).world ≡ plains S n w
      again true e later =
          let z = and_right (ltb 0 n) (S.running w) e in
          let k : n ≡ min n (S.gap n w + 1) + left_after S n w = omega arith in
          rw (e, leaps_of)
          (later (omega arith) ∙ ap (λ (v : W). plains S (left_after S n w) v) (leap_plain n w z)
          ∙ sym (plains_add (min n (S.gap n w + 1)) (left_after S n w) w) ∙ ap (λ (m : ℕ). plains S m w) (sym k))
      again false e later = rw (e, leaps_of) (sym (over_plain n w e))

  -- a run of n clocks is n plain clocks
  pub run_plain : (n : ℕ) (w : W) → (run S n w).world ≡ plains S n w
  unfolding run
  run_plain n w = leaps_plain n n w (omega arith)

  leaps_over : (most n : ℕ) (w : W) → (ltb 0 n && S.running w) ≡ false
      → leaps_of S most n w ≡ record { world = w; leaps = 0 }
  unfolding leaps_of
  leaps_over zero n w e = refl
  leaps_over (suc most) n w e = rw (e, leaps_of)

  -- where as many leaps are allowed as clocks are left, it does not matter how many more are
  leaps_same : (f g n : ℕ) (w : W) → n ≤ f → n ≤ g → leaps_of S f n w ≡ leaps_of S g n w
  unfolding leaps_of
  leaps_same zero g n w h k = sym (leaps_over g n w (rw (le-ltb 0 n (omega arith))))
  leaps_same (suc f) zero n w h k = leaps_over (suc f) n w (rw (le-ltb 0 n (omega arith)))
  leaps_same (suc f) (suc g) n w h k =
      again (ltb 0 n && S.running w) refl (leaps_same f g (left_after S n w) (leap_of S n w))
    where
      again : (b : Bool) → (ltb 0 n && S.running w) ≡ b
          → (left_after S n w ≤ f → left_after S n w ≤ g
          → leaps_of S f (left_after S n w) (leap_of S n w) ≡ leaps_of S g (left_after S n w) (leap_of S n w))
          → leaps_of S (suc f) n w ≡ leaps_of S (suc g) n w
      again true e later = rw (e, leaps_of) (rw (later (omega arith) (omega arith)))
      again false e later = rw (e, leaps_of)

  -- a run is a leap and the run of what is left
  pub run_leap : (n : ℕ) (w : W) → 0 < n → S.running w ≡ true
      → run S n w ≡ record {
        world = (run S (left_after S n w) (leap_of S n w)).world;
        leaps = moved_of S w (leap_of S n w) + (run S (left_after S n w) (leap_of S n w)).leaps;
      }
  unfolding run leaps_of
  run_leap zero w h z = absurd (omega arith)
  run_leap (suc n) w h z =
      rw (z, lt-ltb 0 (suc n) h, leaps_of) (rw (leaps_same n (left_after S (suc n) w) (left_after S (suc n) w)
      (leap_of S (suc n) w) (omega arith) (omega arith)))

  -- a run of no clocks, or of a machine that has stopped
  pub run_over : (n : ℕ) (w : W) → (ltb 0 n && S.running w) ≡ false → run S n w ≡ record { world = w; leaps = 0 }
  unfolding run
  run_over n w e = leaps_over n n w e

  moved_later : (w v : W) → S.clock w < S.clock v → moved_of S w v ≡ 1
  unfolding moved_of
  moved_later w v h = rw (lt-ltb (S.clock w) (S.clock v) h)

  moved_by : (g : ℕ) (w v : W) → S.clock v ≡ S.clock w + g → moved_of S w v ≡ min 1 g
  unfolding moved_of
  moved_by zero w v e = rw (le-ltb (S.clock w) (S.clock v) (omega arith)) (omega arith)
  moved_by (suc g) w v e = rw (lt-ltb (S.clock w) (S.clock v) (omega arith)) (omega arith)

  -- a run of one clock is one plain clock, and one leap where it moved
  pub run_one : (w : W) → run S 1 w ≡ record { world = S.plain w; leaps = moved_of S w (S.plain w) }
  run_one w = still (S.running w) refl
    where
      still : (b : Bool) → S.running w ≡ b
          → run S 1 w ≡ record { world = S.plain w; leaps = moved_of S w (S.plain w) }
      still true z =
          let leap : leap_of S 1 w ≡ S.plain w =
          leap_plain 1 w z ∙ ap (λ (n : ℕ). plains S n w) (omega arith) ∙ plains_one w in
          let none : left_after S 1 w ≡ 0 = omega arith in
          run_leap 1 w (omega arith) z ∙ rw (leap, none, run_over 0 (S.plain w) refl, add-zero)
      still false z = run_over 1 w (rw z) ∙ rw (L.stopped_plain w z, moved_by 0 w w (omega arith))

  pub leap_through : (n : ℕ) (w : W) → S.gap n w < n → leap_of S n w ≡ S.plain (S.pass (S.gap n w) w)
  unfolding leap_of
  leap_through n w h = rw (lt-ltb (S.gap n w) n h)

  -- whole leaps done: the run of what is left, and its leaps and these, are the run
  pub by_leaps_run : {n : ℕ} {w : W} {k m : ℕ} {v : W} → ByLeaps S n w k m v
      → run S n w ≡ record { world = (run S m v).world; leaps = k + (run S m v).leaps }
  by_leaps_run no_leap = rw zero-add
  by_leaps_run {n} {w} (one_more {k} {m} {v} before on some reached) =
      let leap : leap_of S m v ≡ S.plain (S.pass (S.gap m v) v) = leap_through m v some in
      let moved : moved_of S v (leap_of S m v) ≡ 1 =
      moved_later v (leap_of S m v)
      (rw leap (omega (arith, L.done_clock (S.pass (S.gap m v) v) reached, L.pass_clock (S.gap m v) v))) in
      by_leaps_run before ∙ rw (run_leap m v (omega arith) on, moved, add_assoc)

  -- a whole leap ends past the event clock that it began before
  leap_far : (m : ℕ) (v : W) → S.gap m v < m → S.done (S.pass (S.gap m v) v) ≡ true
      → S.clock v + S.gap m v < S.clock (leap_of S m v)
  leap_far m v some reached =
      rw (leap_through m v some)
      (omega (arith, L.done_clock (S.pass (S.gap m v) v) reached, L.pass_clock (S.gap m v) v))

  -- as many leaps from one start lead to one world
  same_leaps : {n : ℕ} {w : W} {k m k' m' : ℕ} {v v' : W} → ByLeaps S n w k m v → ByLeaps S n w k' m' v' → k ≡ k'
      → (m ≡ m') × (v ≡ v')
  same_leaps no_leap no_leap e = (refl, refl)
  same_leaps no_leap (one_more b on some reached) e = absurd (omega (arith, e))
  same_leaps (one_more a on some reached) no_leap e = absurd (omega (arith, e))
  same_leaps (one_more {k} {m} {v} a on some reached) (one_more {k = j} {m = i} {v = u} b on' some' reached') e =
      let s = same_leaps a b (omega (arith, e)) in
      (ap₂ (left_after S) s.0 s.1, ap₂ (leap_of S) s.0 s.1)

  -- and more leaps lead past the next event clock
  more_leaps : {n : ℕ} {w : W} {k m k' m' : ℕ} {v v' : W} → ByLeaps S n w k m v → ByLeaps S n w k' m' v' → k < k'
      → S.clock v + S.gap m v < S.clock v'
  more_leaps first no_leap h = absurd (omega (arith, h))
  more_leaps {n} {w} {k} {m} {k'} {m'} {v} {v'} first (one_more {k = j} {m = i} {v = u} before on some reached) h =
      by_test (eqb k j) refl (λ less. more_leaps first before less)
    where
      by_test : (t : Bool) → eqb k j ≡ t → (k < j → S.clock v + S.gap m v < S.clock u)
          → S.clock v + S.gap m v < S.clock (leap_of S i u)
      by_test true e earlier =
          let s = same_leaps first before (eqb-true k j e) in
          let clock : S.clock v ≡ S.clock u = ap S.clock s.1 in
          let gap : S.gap m v ≡ S.gap i u = ap₂ S.gap s.0 s.1 in
          omega (arith, clock, gap, leap_far i u some reached)
      by_test false e earlier =
          let other = eqb-false k j e in
          omega (arith, earlier (omega (arith, h)), leap_far i u some reached)

  -- So no world inside a gap is reached by leaps: single clocks of a gap, walked, cannot stand in the place of one,
  -- counted or not.
  pub inside_no_leap : {n : ℕ} {w : W} {k m k' m' : ℕ} {v : W} → ByLeaps S n w k m v → (g : ℕ) → 0 < g → g ≤ S.gap m v
      → ByLeaps S n w k' m' (S.pass g v) → ⊥
  inside_no_leap {n} {w} {k} {m} {k'} {m'} {v} first g some inside walked = by_more (ltb k k') refl
    where
      by_same : (t : Bool) → eqb k' k ≡ t → k' ≤ k → ⊥
      by_same true e h =
          let clock : S.clock (S.pass g v) ≡ S.clock v =
          ap S.clock (same_leaps walked first (eqb-true k' k e)).1 in
          omega (arith, clock, L.pass_clock g v)
      by_same false e h =
          let other = eqb-false k' k e in
          omega (arith, more_leaps walked first (omega arith), L.pass_clock g v)

      by_more : (t : Bool) → ltb k k' ≡ t → ⊥
      by_more true e = omega (arith, more_leaps first walked (ltb-true k k' e), L.pass_clock g v)
      by_more false e = by_same (eqb k' k) refl (ltb-false k k' e)

  -- ---- the count of leaps

  pub trace_done : (n : ℕ) (w : W) → S.done w ≡ true → trace S (suc n) w ≡ S.event w ∷ trace S n (S.plain w)
  unfolding trace
  trace_done n w e = rw (e, trace)

  pub trace_undone : (n : ℕ) (w : W) → S.done w ≡ false → trace S n w ≡ []
  unfolding trace
  trace_undone zero w e = refl
  trace_undone (suc n) w e = rw (e, trace)

  trace_stopped : (n : ℕ) (w : W) → S.running w ≡ false → trace S n w ≡ []
  trace_stopped n w e = trace_undone n w (L.stopped_done w e)

  trace_pass : (g m n : ℕ) (w : W) → S.running w ≡ true → g ≤ S.gap n w
      → trace S (g + m) w ≡ quiets g (trace S m (S.pass g w))
  trace_pass zero m n w z h = rw (zero-add, L.pass_zero)
  trace_pass (suc g) m n w z h =
      let p : S.plain w ≡ S.pass 1 w = L.quiet_plain n w z (omega arith) in
      let r : trace S (g + m) (S.plain w) ≡ quiets g (trace S m (S.pass (suc g) w)) =
      ap (λ (v : W). trace S (g + m) v) p
      ∙ trace_pass g m (n - 1) (S.pass 1 w) (L.pass_running 1 w ∙ z) (omega (arith, L.gap_passed 1 n w))
      ∙ ap (λ (v : W). quiets g (trace S m v)) (L.pass_add 1 g w ∙ ap (λ (k : ℕ). S.pass k w) (omega arith)) in
      rw suc-add
      (trace_done (g + m) w (L.quiet_done n w z (omega arith))
      ∙ ap₂ (λ (c : Bool) (l : List Bool). c ∷ l) (L.quiet_event n w (omega arith)) r)

  -- a leap of gap g to `v` that reaches its event clock, after which m clocks are left
  count_reached : (g m : ℕ) (w v : W) → trace S (g + suc m) w ≡ quiets g (trace S (suc m) v) → S.event v ≡ true
      → S.clock v ≡ S.clock w + g → leap_count S (g + suc m) w ≡ moved_of S w (S.plain v) + leap_count S m (S.plain v)
  unfolding leap_count events_in quiet_end
  count_reached g m w v t e k = rw t (ends (S.done v) refl)
    where
      ends : (b : Bool) → S.done v ≡ b
          → events_in (quiets g (trace S (suc m) v)) + quiet_end (quiets g (trace S (suc m) v))
          ≡ moved_of S w (S.plain v) + (events_in (trace S m (S.plain v)) + quiet_end (trace S m (S.plain v)))
      ends true d =
          let h = L.done_clock v d in
          rw (trace_done m v d, e, moved_later w (S.plain v) (omega arith), events_quiets, end_quiets, end_event)
          (omega arith)
      ends false d =
          let h = L.undone_clock v d in
          rw (
            trace_undone (suc m) v d,
            trace_stopped m (S.plain v) (L.undone_stops v d),
            moved_by g w (S.plain v) (omega arith),
            events_quiets,
            end_all,
          )
          (omega arith)

  -- a leap that reaches the end of the run
  count_end : (g : ℕ) (w v : W) → trace S (g + 0) w ≡ quiets g (trace S 0 v) → leap_count S (g + 0) w ≡ min 1 g
  unfolding leap_count trace events_in
  count_end g w v t = rw (t, events_quiets, end_all) (omega arith)

  count_none : (n : ℕ) (w : W) → n ≡ 0 → leap_count S n w ≡ 0
  unfolding leap_count trace events_in quiet_end
  count_none n w z = rw z (omega arith)

  count_stopped : (n : ℕ) (w : W) → S.running w ≡ false → leap_count S n w ≡ 0
  unfolding leap_count events_in quiet_end
  count_stopped n w e = rw (trace_stopped n w e) (omega arith)

  count_over : (n : ℕ) (w : W) → (ltb 0 n && S.running w) ≡ false → leap_count S n w ≡ 0
  count_over n w e = still (S.running w) refl
    where
      still : (b : Bool) → S.running w ≡ b → leap_count S n w ≡ 0
      still true z = count_none n w (none_left n (S.running w) e z)
      still false z = count_stopped n w z

  -- one clock, whatever the gap says
  pub count_one : (w : W) → leap_count S 1 w ≡ moved_of S w (S.plain w)
  unfolding leap_count trace events_in quiet_end
  count_one w = ends (S.done w) refl
    where
      ends : (b : Bool) → S.done w ≡ b → leap_count S 1 w ≡ moved_of S w (S.plain w)
      ends true d =
          let h = L.done_clock w d in
          rw (moved_later w (S.plain w) (omega arith), d, trace) (omega (arith, one_where_not (S.event w)))
      ends false d = rw (moved_by 0 w (S.plain w) (L.undone_clock w d ∙ omega arith), d, trace) (omega arith)

  -- What is owed besides, of the worlds that a run meets: with a clock left and no gap, the next clock is an event
  -- clock.
  module _ (Inv : W → Type 0) (kept : (w : W) → Inv w → Inv (S.plain w))
      (gap_event : (n : ℕ) (w : W) → Inv w → 0 < n → S.gap n w ≡ 0 → S.event w ≡ true) where
    pub plains_kept : (n : ℕ) (w : W) → Inv w → Inv (plains S n w)
    unfolding plains
    plains_kept zero w i = i
    plains_kept (suc n) w i = plains_kept n (S.plain w) (kept w i)

    leap_kept : (n : ℕ) (w : W) → S.running w ≡ true → Inv w → Inv (leap_of S n w)
    leap_kept n w z i = subst Inv (sym (leap_plain n w z)) (plains_kept (min n (S.gap n w + 1)) w i)

    -- a leap adds 1 where it moved
    count_leap : (n : ℕ) (w : W) → Inv w → S.running w ≡ true
        → leap_count S n w ≡ moved_of S w (leap_of S n w) + leap_count S (left_after S n w) (leap_of S n w)
    unfolding leap_of
    count_leap n w i z = reached (ltb (S.gap n w) n) refl
      where
        g : ℕ
        g = S.gap n w

        v : W
        v = S.pass g w

        reached : (b : Bool) → ltb g n ≡ b
            → leap_count S n w ≡ moved_of S w (cond b (S.plain v) v) + leap_count S (n - (g + 1)) (cond b (S.plain v) v)
        reached true e =
            let h = ltb-true g n e in
            let k : n ≡ g + suc (n - (g + 1)) = omega arith in
            let j : Inv v = subst Inv (plains_pass g n w z (omega arith)) (plains_kept g w i) in
            let event = gap_event (n - g) v j (omega arith) (L.gap_passed g n w ∙ omega arith) in
            ap (λ (m : ℕ). leap_count S m w) k
            ∙ count_reached g (n - (g + 1)) w v (trace_pass g (suc (n - (g + 1))) n w z (omega arith)) event
            (L.pass_clock g w)
        reached false e =
            let h = ltb-false g n e in
            let k : n ≡ g + 0 = omega (arith, L.gap_le n w) in
            ap (λ (m : ℕ). leap_count S m w) k
            ∙ count_end g w v (trace_pass g 0 n w z (omega arith))
            ∙ omega (arith, moved_by g w v (L.pass_clock g w), count_none (n - (g + 1)) v (omega arith))

    leaps_count : (most n : ℕ) (w : W) → n ≤ most → Inv w → (leaps_of S most n w).leaps ≡ leap_count S n w
    unfolding leaps_of
    leaps_count zero n w h i = sym (count_none n w (omega arith))
    leaps_count (suc most) n w h i =
        again (ltb 0 n && S.running w) refl (leaps_count most (left_after S n w) (leap_of S n w))
      where
        again : (b : Bool) → (ltb 0 n && S.running w) ≡ b
            → (left_after S n w ≤ most → Inv (leap_of S n w)
            → (leaps_of S most (left_after S n w) (leap_of S n w)).leaps ≡ leap_count S (left_after S n w) (leap_of S n w))
            → (leaps_of S (suc most) n w).leaps ≡ leap_count S n w
        again true e later =
            let z = and_right (ltb 0 n) (S.running w) e in
            let k = ltb-true 0 n (and_left (ltb 0 n) (S.running w) e) in
            rw (e, leaps_of) (rw (later (omega arith) (leap_kept n w z i)) (sym (count_leap n w i z)))
        again false e later = rw (e, leaps_of) (sym (count_over n w e))

    -- a run's leaps are as many as document 01 says
    pub run_count : (n : ℕ) (w : W) → Inv w → (run S n w).leaps ≡ leap_count S n w
    unfolding run
    run_count n w i = leaps_count n n w (omega arith) i

    -- with no gap the first clock, if it is done, is an event clock
    no_leading : (m : ℕ) (v : W) → Inv v → S.gap m v ≡ 0 → leading_quiet (trace S m v) ≡ 0
    unfolding leading_quiet trace
    no_leading zero v i e = refl
    no_leading (suc m) v i e = by_done (S.done v) refl
      where
        by_done : (d : Bool) → S.done v ≡ d → leading_quiet (trace S (suc m) v) ≡ 0
        by_done true d = rw (trace_done m v d, gap_event (suc m) v i (omega arith) e)
        by_done false d = rw (trace_undone (suc m) v d)

    -- "the gap (clocks before the next event clock, at most those left)"
    pub gap_leads : (n : ℕ) (w : W) → Inv w → S.running w ≡ true → S.gap n w ≡ leading_quiet (trace S n w)
    gap_leads n w i z =
        let g = S.gap n w in
        let v = S.pass g w in
        let most = L.gap_le n w in
        let j : Inv v = subst Inv (plains_pass g n w z (omega arith)) (plains_kept g w i) in
        let none : S.gap (n - g) v ≡ 0 = L.gap_passed g n w ∙ omega arith in
        let whole : n ≡ g + (n - g) = omega arith in
        let shape : trace S n w ≡ quiets g (trace S (n - g) v) =
        ap (λ (k : ℕ). trace S k w) whole ∙ trace_pass g (n - g) n w z (omega arith) in
        sym (ap leading_quiet shape ∙ leading_quiets g (trace S (n - g) v)
        ∙ ap (λ (k : ℕ). g + k) (no_leading (n - g) v j none) ∙ add-zero g)
