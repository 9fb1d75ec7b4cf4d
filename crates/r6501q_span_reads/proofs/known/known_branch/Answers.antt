use mathlib.Core.Path.{refl, sym, ◌∙◌}
use native.Mathlib.Omega.{arith}
use Rattle.bits.proofs.Cond.{one_where_le}
use Rattle.cpu_effects.specs.Effects.{pushes_of}
use Rattle.r6501q_span_reads.proofs.KnownOutcomes.{branch_known}
use Rattle.r6501q_span_reads.proofs.known.known_branch.Goals as goal

pub overflow_add-result : goal.overflow_add-result
overflow_add-result c = omega (
  arith,
  c.requires.0.0.short,
)

pub overflow_add-result-then-bit_branch_taken : goal.overflow_add-result-then-bit_branch_taken
overflow_add-result-then-bit_branch_taken c =
    let added = c.one_where.ensures in
    omega (
      arith,
      c.requires.0.0.short,
      added,
      one_where_le c.relative-target.result.crossed,
    )

pub returns-then-bit_branch_taken : goal.returns-then-bit_branch_taken
unfolding pushes_of
returns-then-bit_branch_taken c =
    let at = c.args in
    let p = c.requires in
    let steady = sym c.steady_at.ensures ∙ c.if-not-steady_at.false in
    let taken = sym c.bit_branch_taken.ensures ∙ c.if-bit_branch_taken.true in
    rw (
      c.with_pc.ensures,
      c.one_where.ensures,
      c.relative-target.ensures,
      c.fetch.ensures,
      c.past_two.ensures,
      c.unasked.ensures,
    ) (
      branch_known at.r _ at.entry at.address p.0.0 at.s at.o p.1 p.0.1 steady _
          (rw c.value-byte.ensures at taken),
      refl,
    )

pub returns : goal.returns
unfolding pushes_of
returns c =
    let at = c.args in
    let p = c.requires in
    let steady = sym c.steady_at.ensures ∙ c.if-not-steady_at.false in
    let left = sym c.bit_branch_taken.ensures ∙ c.if-bit_branch_taken.false in
    rw (
      c.with_pc-2.ensures,
      c.relative-target.ensures,
      c.fetch.ensures,
      c.past_two.ensures,
      c.unasked.ensures,
    ) (
      branch_known at.r _ at.entry at.address p.0.0 at.s at.o p.1 p.0.1 steady _
          (rw c.value-byte.ensures at left),
      refl,
    )
