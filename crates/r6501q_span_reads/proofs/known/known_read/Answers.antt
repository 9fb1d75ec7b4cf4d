use mathlib.Core.Path.{refl, sym, ◌∙◌}
use Rattle.cpu_effects.specs.Effects.{pushes_of}
use Rattle.r6501q_span_reads.proofs.KnownOutcomes.{read_known}
use Rattle.r6501q_span_reads.proofs.known.known_read.Goals as goal

pub returns : goal.returns
unfolding pushes_of
returns c =
    let at = c.args in
    let p = c.requires in
    let steady = sym c.steady_at.ensures ∙ c.if-not-steady_at.false in
    rw (
      c.with_read-after.ensures,
      c.with_pc.ensures,
      c.past_two.ensures,
      c.value-byte.ensures,
    )
    (read_known at.r _ at.entry at.address p.0.0 at.s at.o p.1 p.0.1 steady, refl)
