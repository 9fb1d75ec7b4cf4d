use borrow.Author.Tests.{eq-eqb, ne_eqb}
use Rattle.tape.proofs.TapeLaws.{to_end}
use Rattle.tape_records.specs.Records.{mark, data_of, data_at}
use mathlib.Core.List.{[]}
use lib.Dec.{eqb}
use lib.ListN.{get_or, drop, get_or-eq_default}
use Prim.Native.Nat.{◌+◌}
use mathlib.Core.Path.{sym, ◌∙◌}
use Rattle.bits.proofs.Cond.{cond_no}
use Rattle.tape.proofs.record_data.Goals as goal

pub returns-then-tape-place : goal.returns-then-tape-place
unfolding data_at
returns-then-tape-place c = rw (get_or-eq_default c.args.tape.now 0 c.if-tape-place.true)

pub returns-then-tape-place-ne-MARK : goal.returns-then-tape-place-ne-MARK
unfolding data_at
returns-then-tape-place-ne-MARK c =
    let tape = c.args.tape.now in
    let place = c.args.place in
    sym (cond_no (eqb (get_or tape place 0) mark) (data_of (drop (place + 1) tape)) []
    (ne_eqb (get_or tape place 0) mark c.if-tape-place-ne-MARK.true))

pub returns : goal.returns
unfolding data_at
returns c = c.data_digits.ensures
    ∙ rw (
      eq-eqb _ _ c.if-tape-place-ne-MARK.false,
      to_end c.args.tape.now
          (c.args.place + 1),
    )
