-- The leaps of a span: some of the leaps of a run, done together.
use Rattle.std.specs.Prelude.{◌≡◌, List, ℕ, ◌+◌, ◌≤◌, Option}
use Rattle.leaps.specs.Leaps.{ByLeaps}
use Rattle.r6501q_chip.specs.R6501q.{system}
use Rattle.r6501q_advance.specs.World.{world_with}
use Rattle.r6501q_leap.specs.declared.Leaped.{Leaped}

-- `r` is reached from `at` by so many whole leaps of document 01's, each the gap, the gap passed and the event clock,
-- and the count is raised by as many. How many leaps, none at least, is left free. They are the same for any codes
-- and output lists.
pub record Spanned (halt : Option ℕ) (at : Leaped) (memory : List ℕ) (r : Leaped) (memory' input_clocks : List ℕ) :
    Type 0 where
  pub made : ℕ
  pub by_leaps : (input_codes output_clocks output_words : List ℕ)
      → ByLeaps (system halt) at.left.0
      (world_with at.progress memory input_clocks input_codes output_clocks output_words)
      made r.left.0 (world_with r.progress memory' input_clocks input_codes output_clocks output_words)
  pub leaps : r.leaps ≡ at.leaps + made
  -- what fits still fits, and no input is read and no record written
  pub clock : r.progress.state.clock + r.left.0 ≤ at.progress.state.clock + at.left.0
  pub bound : r.leaps + r.left.0 ≤ at.leaps + at.left.0
  pub left : r.left.0 ≤ at.left.0
  pub read : r.progress.read ≡ at.progress.read
  pub written : r.progress.written ≡ at.progress.written
