-- One plain clock, by what it comes to.
use Rattle.std.specs.Prelude.{Option}
use mathlib.Core.Path.{◌≡◌, ◌∙◌, refl}
use mathlib.Core.Bool.{Bool, true, false, cond}
use mathlib.Core.List.{List}
use Prim.Native.Nat.{ℕ, ◌+◌, ◌-◌, ◌≤◌}
use native.Mathlib.Omega.{arith}
use lib.Dec.{ltb}
use lib.ListN.{length, take, drop, length-drop}
use lib.Seq.{take_all}
use borrow.Author.Tests.{eq-eqb}
use Rattle.std.specs.Prelude.{Option, None, Some, is_some, unwrap_or, Ok, Err}
use Rattle.std.specs.Bool.{then_some}
use Rattle.bits.specs.Bits.{one_where}
use Rattle.stops.specs.declared.Stop.{Stop}
use Rattle.stops.specs.declared.Stop.TheVariants.{Halted}
use Rattle.stops.specs.Stops.{stop_number, number_of}
use Rattle.pin_lists.specs.PinLists.{input_count}
use Rattle.pin_lists.proofs.PinLists.{input_count_within}
use Rattle.leaps.specs.World.{stopped_at, moved_to, input_count_in, plain_of, put_record}
use Rattle.r6501q_clock.specs.declared.Ended.{Ended}
use Rattle.r6501q_clock.specs.Clock.{halt_stop, clock_of}
use Rattle.r6501q_advance.specs.declared.Progress.{Progress}
use Rattle.r6501q_chip.specs.R6501q.{World, r6501q, end_of}
use Rattle.page_sums.proofs.Sums.{sums_kept, sums_then}
use Rattle.r6501q_advance.specs.declared.lent.SummedMemory.{SummedMemory}
use Rattle.r6501q_advance.specs.declared.lent.LentLists.{LentLists}
use Rattle.r6501q_advance.specs.World.{halted_after, progress_to, Summed, StillLent}

module _ (halt : Option ℕ) (w : World) (inputs : ℕ) (free : Bool) (on : w.stop ≡ 0)
    (counted : inputs ≡ input_count_in (r6501q halt) w) where
  -- a clock that stops
  pub plain_stops : (stop : Stop) → clock_of w.state (take inputs w.input_codes) w.memory free ≡ Err stop
      → free ≡ ltb w.written (length w.output_clocks) → stopped_at (stop_number stop) w ≡ plain_of (r6501q halt) w
  unfolding plain_of
  plain_stops stop e room = rw (eq-eqb w.stop 0 on, ← counted, ← room, e)

  -- a clock that is done
  pub plain_moves : (e : Ended) → clock_of w.state (take inputs w.input_codes) w.memory free ≡ Ok e
      → free ≡ ltb w.written (length w.output_clocks)
      → moved_to (r6501q halt) (end_of halt w.memory e) inputs w ≡ plain_of (r6501q halt) w
  unfolding plain_of
  plain_moves ended e room = rw (eq-eqb w.stop 0 on, ← counted, ← room, e)

-- the stop that a clock which is done ends in, by its number
pub halted_number : (t : Bool) → number_of (then_some t Halted) ≡ cond t halt_stop 0
halted_number true = refl
halted_number false = refl

-- where there is no record, no word is put
pub put_any : (output : Option ℕ) (other at : ℕ) (list : List ℕ)
    → put_record (is_some output) at (unwrap_or output 0) list
    ≡ put_record (is_some output) at (unwrap_or output other) list
unfolding put_record
put_any None other at list = refl
put_any (Some word) other at list = refl

-- what the code carries once a clock is done, field by field
pub progress_done : (halt : Option ℕ) (e : Ended) (inputs : ℕ) (p r : Progress) → r.state ≡ e.state
    → r.read ≡ p.read + inputs
    → r.written ≡ p.written + one_where (is_some e.output) → r.stop ≡ halted_after halt e.writes
    → r ≡ progress_to halt e inputs p
progress_done halt e inputs p r a b c d = rw (← a, ← b, ← c, ← d)

-- the part of a list that begins at an index, as it is lent
pub lent_part : (l : List ℕ) (n : ℕ) → take (length l - n) (drop n l) ≡ drop n l
lent_part l n = take_all (length l - n) (drop n l) (omega (arith, length-drop n l))

-- the inputs of the next clock are there
pub input_count_fits : (clock read : ℕ) (clocks codes : List ℕ) → read ≤ length clocks → length clocks ≡ length codes
    → read + input_count clock (drop read clocks) ≤ length codes
input_count_fits clock read clocks codes h e =
    omega (
      arith,
      input_count_within clock (drop read clocks),
      length-drop read clocks,
    )

-- nothing is put into the lent memory, nor into the lists
pub summed_kept : (m : SummedMemory) → Summed m m
summed_kept m = record {
  bytes = refl;
  sums = refl;
  sums_after = sums_kept 0 m.sums.now m.bytes.now m.sixteen_bits;
}

pub still_lent_kept : (l : LentLists) → StillLent l l
still_lent_kept l = record {
  inputclocks = refl;
  inputcodes = refl;
  outputs = record { outputclocks = refl; outputwords = refl };
}

-- from one time to the next, and to a later one
pub summed_then : (a b c : SummedMemory) → Summed a b → Summed b c → Summed a c
summed_then a b c first second = record {
  bytes = second.bytes ∙ first.bytes;
  sums = second.sums ∙ first.sums;
  sums_after = sums_then 0 a.sums.now a.bytes.now b.bytes.now c.bytes.now first.sums_after second.sums_after;
}
