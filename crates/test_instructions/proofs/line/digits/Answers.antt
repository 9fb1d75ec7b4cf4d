use Rattle.std.proofs.Common.{◌≡◌, ◌+◌, arith}
use Rattle.test_instructions.proofs.Hex.{reading_begins, reading_on, reading_fits, reading_ends}
use Rattle.test_instructions.proofs.line.digits.Goals as goal

pub loop-c-init : goal.loop-c-init
loop-c-init c = reading_begins _ _

pub overflow_mul-n : goal.overflow_mul-n
overflow_mul-n c = omega (arith, reading_fits _ _ _ _ (omega (arith, c.in_ok-text.ensures.lookup.0)) c.loop-c.invariant)

pub overflow_add-n : goal.overflow_add-n
overflow_add-n c = omega (
  arith,
  reading_fits _ _ _ _ (omega (arith, c.in_ok-text.ensures.lookup.0)) c.loop-c.invariant,
  c.in_ok-n.ensures.upper_bound,
)

pub loop-c-preserved : goal.loop-c-preserved
loop-c-preserved c =
    let place : 0 + c.loop-c.c-index ≡ c.loop-c.c-index = omega arith in
    reading_on c.in_ok-text.text.now 0 c.loop-c.c-index c.loop-c.n c.in_ok-n.field-0 (omega arith)
    c.in_ok-n.ensures.upper_bound (rw place c.in_ok-n.ensures.c_value) c.loop-c.invariant

pub returns : goal.returns
returns c =
    let behind = c.in_ok-get.ensures.lookup.0 in
    let front = c.in_ok-text.ensures.lookup.0 in
    reading_ends _ _ _ _ _ _ _ behind.2 front.2 front.3 c.loop-c-test.false c.loop-c.auto.c-index-end
    c.loop-c.invariant
