use mathlib.Core.Path.{◌≡◌, refl, sym, ◌∙◌}
use Prim.Native.Nat.{suc, ◌<◌, ◌-◌}
use native.Mathlib.Omega.{arith}
use native.Mathlib.Numerals.{add-one}
use lib.ListN.{length, length-set}
use lib.Seq.{take-suc-set}
use Rattle.r6501q_cpu.specs.Asking.{instruction_from, answered_instruction}
use Rattle.r6501q_cpu.proofs.Asks.{round_over, round_answered}
use Rattle.r6501q_cpu.proofs.answered_instruction.Goals as goal

pub loop-count-init : goal.loop-count-init
unfolding answered_instruction
loop-count-init c = (refl, refl)

pub returns-in-Break : goal.returns-in-Break
returns-in-Break c =
    let at = c.loop-count in
    let left : 0 < 6 - at.count = omega arith in
    let over = sym c.one_round.ensures ∙ c.in-Break.is in
    sym (round_over _ _ _ _ _ _ _ left over) ∙ at.invariant.1

pub loop-count-preserved : goal.loop-count-preserved
loop-count-preserved c =
    let at = c.loop-count in
    let left : 6 - at.count ≡ suc (6 - suc at.count) = omega arith in
    let room : at.count < length at.answers = rw at.invariant.0 (omega arith) in
    let asked = sym c.one_round.ensures ∙ c.in-Continue.is in (
      rw (length-set at.answers at.count c.in-Continue.reading.value) at.invariant.0,
      rw (add-one at.count, take-suc-set at.answers at.count _ room)
          (sym (round_answered _ _ _ _ _ _ _ _ left asked) ∙ at.invariant.1),
    )

pub returns : goal.returns
unfolding instruction_from
returns c =
    let none : 6 - c.loop-count.count ≡ 0 = omega arith in rw (none) at c.loop-count.invariant.1
