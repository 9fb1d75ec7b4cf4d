use mathlib.Core.Path.{◌≡◌, refl, sym, ◌∙◌}
use mathlib.Core.Bool.{false, false≢true}
use native.Mathlib.Omega.{arith}
use Rattle.std.specs.Prelude.{Option, None, Some, is_some}
use Rattle.r6501q_advance.proofs.Worlds.{lent_part}
use Rattle.r6501q_span_leaps.proofs.span_from.Goals as goal

nothing_there : {T : Type 0} (o : Option T) → is_some o ≡ false → o ≡ None
nothing_there None e = refl
nothing_there (Some x) e = absurd (false≢true (sym e))

pub returns-then-at-eq0 : goal.returns-then-at-eq0
returns-then-at-eq0 c = λ some. absurd (omega arith)

pub returns-then-is_some : goal.returns-then-is_some
returns-then-is_some c = λ some. absurd (omega arith)

pub returns : goal.returns
returns c = λ some. record {
  on = nothing_there c.args.at.progress.stop (sym c.is_some.ensures ∙ c.if-is_some.false);
  alone = rw (lent_part _ _) at (c.span.ensures.0 some);
  short = c.span.ensures.1;
}
