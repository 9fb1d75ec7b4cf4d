use native.Mathlib.Omega.{arith}
use Rattle.record_text.specs.Lines.{digit_count, decimal_of}
use Rattle.record_text.proofs.Laws.{digits_length}
use borrow.Author.Rules.{rules}
use Rattle.record_text.proofs.put_decimal.Goals as goal

pub put_digits-requires : goal.put_digits-requires
unfolding decimal_of
put_digits-requires c = record {
  base_nonzero = search rules;
  count_in_bounds = omega (
    arith,
    c.digit_count.ensures,
    digits_length 10 (digit_count 9 c.args.n) c.args.n,
  );
}

pub returns : goal.returns
unfolding decimal_of
returns c = rw (← c.digit_count.ensures) c.put_digits.ensures
