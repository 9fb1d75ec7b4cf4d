use mathlib.Core.Path.{sym, ◌∙◌}
use Rattle.tape_records.proofs.RecordLaws.{count_most, data_none, data_some}
use native.Mathlib.Omega.{arith}
use Rattle.tape_records.proofs.record.data_digits.Goals as goal

pub returns-then-is_some : goal.returns-then-is_some
returns-then-is_some c =
    sym (data_none c.args.text.now c.fault_of.result c.fault_of.ensures (sym c.is_some.ensures ∙ c.if-is_some.true))

pub overflow_mul-count : goal.overflow_mul-count
overflow_mul-count c = omega (arith, c.count.ensures, count_most c.args.text.now)

pub returns : goal.returns
returns c =
    rw (c.part.ensures, c.count.ensures)
    (sym (data_some c.args.text.now c.fault_of.result c.fault_of.ensures (sym c.is_some.ensures ∙ c.if-is_some.false)))
