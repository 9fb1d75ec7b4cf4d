use mathlib.Core.Path.{◌≡◌}
use lib.ListN.{length}
use Rattle.std.specs.Iterator.Adapters.{zip_first, zip_second}
use Rattle.std.specs.Slice.Iter.{iter_rest}
use Rattle.pin_lists.specs.PinLists.{rest_right, pins_right}
use Rattle.pin_lists.proofs.pins_right.Given as goal

abbrev pub invariant-loop-time : goal.invariant-loop-time
invariant-loop-time l =
    let ts = iter_rest (zip_first l.time-iterator) in
    let cs = iter_rest (zip_second l.time-iterator) in
    (length ts ≡ length cs) × (rest_right l.lastpin l.last l.pin ts cs ≡ pins_right l.lastpin l.clock l.clocks l.codes)
