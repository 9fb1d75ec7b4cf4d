use Rattle.std.specs.Iterator.Adapters.{zip_first, zip_second}
use Rattle.std.specs.Slice.Iter.{iter_rest}
use Rattle.record_text.proofs.Laws.{Listing}
use Rattle.record_text.proofs.put_records.Given as goal

abbrev pub invariant-loop-clock : goal.invariant-loop-clock
invariant-loop-clock l =
    Listing l.times l.words l.at l.initial.text l.place l.text (iter_rest (zip_first l.clock-iterator))
    (iter_rest (zip_second l.clock-iterator))
