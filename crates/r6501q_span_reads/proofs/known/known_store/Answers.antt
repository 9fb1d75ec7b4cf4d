use mathlib.Core.Path.{refl}
use Rattle.cpu_effects.specs.Effects.{pushes_of}
use Rattle.r6501q_span_reads.proofs.KnownOutcomes.{store_known}
use Rattle.r6501q_span_reads.proofs.known.known_store.Goals as goal

pub returns : goal.returns
unfolding pushes_of
returns c =
    let at = c.args in
    let p = c.requires in
    rw (
      c.with_pc.ensures,
      c.past_two.ensures,
      c.byte_to_store.ensures,
    )
    (store_known at.r _ at.entry at.address p.0.0 at.s at.o p.1 p.0.1, refl)
