use mathlib.Core.Path.{refl, sym}
use mathlib.Core.Bool.{◌||◌, not}
use Prim.Native.Nat.{ℕ}
use lib.Dec.{eqb}
use lib.ListN.{length}
use Rattle.bits.proofs.Cond.{cond_yes}
use Rattle.refusals.specs.Refusals.{refusal_of}
use borrow.Author.Tests.{eq-eqb, ne_eqb}
use Rattle.refusals.proofs.check.Goals as goal

pub returns-then-bytes-limits : goal.returns-then-bytes-limits
unfolding refusal_of
returns-then-bytes-limits c = rw (ne_eqb _ _ c.if-bytes-limits.true) refl

pub returns-then-not-formed : goal.returns-then-not-formed
unfolding refusal_of
returns-then-not-formed c = rw (c.if-not-formed.true, eq-eqb _ _ c.if-bytes-limits.false) refl

pub returns-then-unpaired : goal.returns-then-unpaired
unfolding refusal_of
returns-then-unpaired c =
    let at = c.args in
    let unpaired =
    not (eqb (length at.clocks.now) (length at.codes.now)) || not (eqb at.times at.words) in
    rw (c.if-not-formed.false, eq-eqb _ _ c.if-bytes-limits.false)
    (sym (cond_yes {A = ℕ} unpaired 3 _ c.if-unpaired.true))

pub returns-then-passes_last : goal.returns-then-passes_last
unfolding refusal_of
returns-then-passes_last c = rw (
  ← c.passes_last.ensures,
  c.if-passes_last.true,
  c.if-unpaired.false,
  c.if-not-formed.false,
  eq-eqb _ _ c.if-bytes-limits.false,
)

pub returns-then-not-pins_right : goal.returns-then-not-pins_right
unfolding refusal_of
returns-then-not-pins_right c = rw (
  ← c.passes_last.ensures,
  ← c.pins_right.ensures,
  c.if-not-pins_right.true,
  c.if-passes_last.false,
  c.if-unpaired.false,
  c.if-not-formed.false,
  eq-eqb _ _ c.if-bytes-limits.false,
)

pub returns : goal.returns
unfolding refusal_of
returns c = rw (
  ← c.passes_last.ensures,
  ← c.pins_right.ensures,
  c.if-not-pins_right.false,
  c.if-passes_last.false,
  c.if-unpaired.false,
  c.if-not-formed.false,
  eq-eqb _ _ c.if-bytes-limits.false,
)
