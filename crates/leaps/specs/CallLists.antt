-- Demand 3, of any machine that calls move: a list of calls, and what plain clocks say of it. Document 01, "Run and
-- leaps": "In demand 3's list each call after the first gets the state and memory that the last returned or left, the
-- rest of the input list and the free output space".
use Rattle.std.specs.Prelude.{◌≡◌, Bool, true, false, cond, List, [], ◌∷◌, ℕ, ◌+◌}
use Rattle.leaps.specs.Leaps.{System, Run, plains, run, moved_of, leap_count}

-- What a list of calls asks of a machine. `W` is its world, `H` what a call hands back, lists included, `R` the result
-- in it.
pub record Machine (W H R : Type 0) : Type 1 where
  pub system : System W
  -- a world in which a call can be made, refused or not: what was handed back so far lies within the lists
  pub Room : W → Type 0
  -- a call for so many clocks is not refused
  pub accepts : ℕ → W → Bool
  -- what a call hands back that ends in this world after so many leaps
  pub handed_back : ℕ → W → H
  -- what a refused call for so many clocks hands back
  pub refused : ℕ → W → H
  pub result_in : H → R
  -- what the next call gets of a world: "the rest of the input list and the free output space"
  pub lent : W → W
  -- the world once a call has handed back what it got of it
  pub after_call : W → H → W
  -- by plain clocks alone: the result of a call that made so many leaps from one world to another, and a refused call
  -- for so many clocks
  pub result_by : ℕ → W → W → R
  pub refused_by : ℕ → W → R

-- "single clocks and runs of any count"
pub data Call : Type 0 where
  single_clock : Call
  run_for : ℕ → Call

-- "a single clock the same with n = 1"
unfoldable pub count_of : Call → ℕ
count_of single_clock = 1
count_of (run_for n) = n

-- where a list of calls leads to, and the result of each
pub record Listed (W R : Type 0) : Type 0 where
  pub world : W
  pub results : List R

module _ {W R : Type 0} where
  abbrev pub listed : R → Listed W R → Listed W R
  listed r later = record { world = later.world; results = r ∷ later.results }

module _ {W H R : Type 0} (M : Machine W H R) where
  -- the single-clock call: 1 leap where the clock moved
  unfoldable pub step_of : W → H
  step_of w =
      cond (M.accepts 1 w) (M.handed_back (moved_of M.system w (M.system.plain w)) (M.system.plain w))
      (M.refused 1 w)

  abbrev pub handed_run : Run W → H
  handed_run r = M.handed_back r.leaps r.world

  -- the call for n clocks: "The run is stated as such leaps repeated."
  unfoldable pub run_of : ℕ → W → H
  run_of n w = cond (M.accepts n w) (handed_run (run M.system n w)) (M.refused n w)

  -- the same by plain clocks, with document 01's leap count
  unfoldable pub plain_run_of : ℕ → W → H
  plain_run_of n w =
      cond (M.accepts n w) (M.handed_back (leap_count M.system n w) (plains M.system n w)) (M.refused n w)

  -- what a call hands back: by the very definitions that the contracts of the single-clock call and of the run cite
  unfoldable pub call_of : Call → W → H
  call_of single_clock w = step_of w
  call_of (run_for n) w = run_of n w

  -- the calls one after the other; "a stop (6, 7) ends the list", and so does 12
  unfoldable pub calls : List Call → W → Listed W R
  calls [] w = record { world = w; results = [] }
  calls (c ∷ cs) w =
      elim (M.system.running w) [
        | true ↦ let h = call_of c (M.lent w) in listed (M.result_in h) (calls cs (M.after_call w h))
        | false ↦ record { world = w; results = [] }
      ]

  -- ---- by plain clocks alone, which "go from a copy of demand 3's start, with stop 0, and take nothing that a call
  -- gives back"

  -- n: the sum of the counts of the calls not refused; "A refused call hands on what it got"
  unfoldable pub clocks_accepted : List Call → W → ℕ
  clocks_accepted [] w = 0
  clocks_accepted (c ∷ cs) w =
      elim (M.system.running w) [
        | true ↦ elim (M.accepts (count_of c) w) [
          | true ↦ count_of c + clocks_accepted cs (plains M.system (count_of c) w)
          | false ↦ clocks_accepted cs w
        ]
        | false ↦ 0
      ]

  -- the result of each call: its refusal, where it is refused in the world reached, or what its clocks come to, with
  -- document 01's leaps
  unfoldable pub results_by : List Call → W → List R
  results_by [] w = []
  results_by (c ∷ cs) w =
      elim (M.system.running w) [
        | true ↦ elim (M.accepts (count_of c) w) [
          | true ↦ let v = plains M.system (count_of c) w in
              M.result_by (leap_count M.system (count_of c) w) w v ∷ results_by cs v
          | false ↦ M.refused_by (count_of c) w ∷ results_by cs w
        ]
        | false ↦ []
      ]

  -- Demand 3, of a list of calls and a start: what the calls leave, and the result of each, is what n plain clocks say.
  abbrev pub FairOf : List Call → W → Type 0
  FairOf cs w = calls cs w ≡ record { world = plains M.system (clocks_accepted cs w) w; results = results_by cs w }
