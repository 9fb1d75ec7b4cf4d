use Rattle.bits.proofs.Cond.{one_where_le}
use lib.Dec.{ltb}
use native.Mathlib.Omega.{arith}
use Rattle.r6501q_leap.proofs.leap_once.Goals as goal

pub leap-q-requires : goal.leap-q-requires
leap-q-requires c = record {
  leaping = c.requires.leaping;
  stop_value = c.requires.left_nonzero.1;
  gap_value = c.gap_from-gap.ensures;
}

pub overflow_add-result : goal.overflow_add-result
overflow_add-result c =
    let most = one_where_le (ltb c.args.at.progress.state.clock c.leap-q.result.state.clock) in
    omega (arith, most, c.leaps_from-moved.ensures, c.requires.left_nonzero.0, c.requires.left_bound)

pub returns : goal.returns
returns c = record {
  world = c.leap-q.ensures.world;
  left_value = rw (
    c.left_after.ensures,
    c.gap_from-gap.ensures,
  );
  leaps_value = rw c.leaps_from-moved.ensures;
  summed = c.leap-q.ensures.summed;
  still_lent = c.leap-q.ensures.still_lent;
}
