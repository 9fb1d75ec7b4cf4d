use mathlib.Core.Path.{sym, ap, ◌∙◌}
use Rattle.bits.specs.Bits.{one_where}
use Rattle.r6501q_span_leaps.proofs.Ticked.{shares_none, shares_one}
use Rattle.r6501q_span_leaps.proofs.shared_in.Goals as goal

pub returns-then-on_tick : goal.returns-then-on_tick
returns-then-on_tick c = sym (shares_one _ _ _ c.if-v-next.true
    ∙ ap one_where (sym c.on_tick.ensures ∙ c.if-on_tick.true))

pub returns-else-on_tick : goal.returns-else-on_tick
returns-else-on_tick c = sym (shares_one _ _ _ c.if-v-next.true ∙ ap one_where
    (sym c.on_tick.ensures ∙ c.if-on_tick.false))

pub returns-else-v-next : goal.returns-else-v-next
returns-else-v-next c = sym (shares_none _ _ _ c.if-v-next.false)
