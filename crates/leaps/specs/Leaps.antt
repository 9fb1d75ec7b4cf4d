-- Document 01, "Run and leaps", of any machine that goes clock by clock: plain clocks, one leap, the run, and the count
-- of its leaps.
use Rattle.std.specs.Prelude.{◌≡◌, Bool, true, false, ◌&&◌, not, cond, List, [], ◌∷◌, ℕ, zero, suc, ◌+◌, ◌-◌, ◌<◌, ltb}
use Rattle.bits.specs.Bits.{one_where}

-- What leaps ask of a machine. `W` is its world: all that a clock reads, changes or counts.
pub record System (W : Type 0) : Type 0 where
  -- one plain clock; "Each, after a stop, does nothing."
  pub plain : W → W
  -- nothing has stopped
  pub running : W → Bool
  -- the next clock is done; "A stopped clock isn't done"
  pub done : W → Bool
  -- the next clock is an event clock
  pub event : W → Bool
  -- the clock's number
  pub clock : W → ℕ
  -- "the gap (clocks before the next event clock, at most those left)", given the clocks left
  pub gap : ℕ → W → ℕ
  -- "the gap passed"
  pub pass : ℕ → W → W

-- what a run leads to, and in how many leaps
pub record Run (W : Type 0) : Type 0 where
  pub world : W
  pub leaps : ℕ

-- "event clocks done", of clocks of which each is an event clock or not
unfoldable pub events_in : List Bool → ℕ
events_in [] = 0
events_in (event ∷ later) = one_where event + events_in later

-- "1 if the last clock done isn't an event clock; 0 if no clock is done"
unfoldable pub quiet_end : List Bool → ℕ
quiet_end [] = 0
quiet_end (event ∷ []) = one_where (not event)
quiet_end (event ∷ (next ∷ later)) = quiet_end (next ∷ later)

-- the clocks before the first event clock
unfoldable pub leading_quiet : List Bool → ℕ
leading_quiet [] = 0
leading_quiet (event ∷ later) = cond event 0 (suc (leading_quiet later))

module _ {W : Type 0} (S : System W) where
  -- n plain clocks
  unfoldable pub plains : ℕ → W → W
  plains zero w = w
  plains (suc n) w = plains n (S.plain w)

  -- "One leap carries the chip through the next event clock or to the end of the run", n clocks being left: the gap
  -- passed, "then the event clock's rules once, if reached"
  unfoldable pub leap_of : ℕ → W → W
  leap_of n w = cond (ltb (S.gap n w) n) (S.plain (S.pass (S.gap n w) w)) (S.pass (S.gap n w) w)

  -- 1 where a clock was done from `w` to `v`, so that a leap that is stopped before its first clock is none
  unfoldable pub moved_of : W → W → ℕ
  moved_of w v = one_where (ltb (S.clock w) (S.clock v))

  -- the clocks left after a leap
  abbrev pub left_after : ℕ → W → ℕ
  left_after n w = n - (S.gap n w + 1)

  -- leaps repeated while clocks are left and nothing has stopped, `most` of them at most
  unfoldable pub leaps_of : ℕ → ℕ → W → Run W
  leaps_of zero n w = record { world = w; leaps = 0 }
  leaps_of (suc most) n w =
      elim (ltb 0 n && S.running w) [
        | true ↦ let later = leaps_of most (left_after n w) (leap_of n w) in
            record { world = later.world; leaps = moved_of w (leap_of n w) + later.leaps }
        | false ↦ record { world = w; leaps = 0 }
      ]

  -- "The run is stated as such leaps repeated." Each takes a clock at least, so that n of them are enough
  unfoldable pub run : ℕ → W → Run W
  run n w = leaps_of n n w

  -- the clocks done of n plain ones, first clock first: of each, whether it is an event clock
  unfoldable pub trace : ℕ → W → List Bool
  trace zero w = []
  trace (suc n) w = elim (S.done w) [ true ↦ S.event w ∷ trace n (S.plain w) | false ↦ [] ]

  -- "Leaps = event clocks done, plus 1 if the last clock done isn't an event clock; 0 if no clock is done."
  unfoldable pub leap_count : ℕ → W → ℕ
  leap_count n w = events_in (trace n w) + quiet_end (trace n w)

-- `v`, with m clocks left, is reached from `w`, with n left, by so many whole leaps: each has a clock left and nothing
-- stopped, its gap ends before the clocks left do, and its event clock is done.
pub data ByLeaps {W : Type 0} (S : System W) (n : ℕ) (w : W) : ℕ → ℕ → W → Type 0 where
  no_leap : ByLeaps S n w 0 n w
  one_more : {k m : ℕ} {v : W} → ByLeaps S n w k m v → S.running v ≡ true → S.gap m v < m
      → S.done (S.pass (S.gap m v) v) ≡ true
      → ByLeaps S n w (k + 1) (left_after S m v) (leap_of S m v)
