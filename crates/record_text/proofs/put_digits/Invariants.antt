use mathlib.Core.Path.{◌≡◌}
use lib.ListN.{length}
use Rattle.record_text.proofs.Laws.{Spelling}
use Rattle.record_text.proofs.put_digits.Given as goal

abbrev pub invariant-loop-left : goal.invariant-loop-left
invariant-loop-left l = Spelling l.base l.count l.n l.at l.initial.text l.left l.rest l.text
    × (length l.text ≡ length l.initial.text)
