use Rattle.r6501q_clock.specs.Clock.{clock_of}
use mathlib.Core.Path.{refl, ◌∙◌}
use Rattle.std.proofs.lemmas.Result.{err_from_is_err_and}
use Rattle.r6501q_clock.proofs.clock.Goals as goal

pub returns-in_err-next : goal.returns-in_err-next
unfolding clock_of
returns-in_err-next c =
    let p = err_from_is_err_and c.from_residual.result c.from_residual.ensures.1 in
    rw (
      p.1,
      p.2,
      ← c.driven_word-before.ensures,
      ← c.before_cpu.ensures,
      ← c.process.ensures,
      c.in_err-next.was,
    ) refl

pub returns : goal.returns
unfolding clock_of
returns c = c.finish.ensures
    ∙ rw (
      c.then_some-output.ensures,
      c.driven_word-word.ensures,
      ← c.driven_word-before.ensures,
      ← c.before_cpu.ensures,
      ← c.process.ensures,
      c.in_ok-next.was,
    ) refl
