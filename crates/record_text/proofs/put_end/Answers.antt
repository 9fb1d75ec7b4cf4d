use native.Mathlib.Omega.{arith}
use mathlib.Core.Path.{ap, ◌∙◌}
use mathlib.Core.List.{[], ◌∷◌}
use Rattle.record_text.specs.Lines.{decimal_of, end_line, filled, put_of}
use Rattle.record_text.proofs.Laws.{place_of, put_five, decimal_length, byte_length, end_length}
use Rattle.record_text.proofs.put_end.Goals as goal

pub put_decimal-after_done-requires : goal.put_decimal-after_done-requires
put_decimal-after_done-requires c = omega (
  arith,
  place_of c.put_characters-after_end.ensures,
  decimal_length c.args.end.done,
)

pub put_characters-after_space-requires : goal.put_characters-after_space-requires
put_characters-after_space-requires c = omega (
  arith,
  place_of c.put_characters-after_end.ensures,
  place_of c.put_decimal-after_done.ensures,
  decimal_length c.args.end.done,
)

pub put_decimal-after_number-requires : goal.put_decimal-after_number-requires
put_decimal-after_number-requires c = omega (
  arith,
  place_of c.put_characters-after_end.ensures,
  place_of c.put_decimal-after_done.ensures,
  place_of c.put_characters-after_space.ensures,
  decimal_length c.args.end.done,
  byte_length c.args.end.number (omega arith),
)

pub put_characters-requires : goal.put_characters-requires
put_characters-requires c = omega (
  arith,
  place_of c.put_characters-after_end.ensures,
  place_of c.put_decimal-after_done.ensures,
  place_of c.put_characters-after_space.ensures,
  place_of c.put_decimal-after_number.ensures,
  decimal_length c.args.end.done,
  byte_length c.args.end.number (omega arith),
)

pub returns : goal.returns
unfolding end_line
returns c =
    let e = c.put_characters.ensures
    ∙ ap (put_of (10 ∷ [])) (c.put_decimal-after_number.ensures
    ∙ ap (put_of (decimal_of c.args.end.number)) (c.put_characters-after_space.ensures
    ∙ ap (put_of (32 ∷ [])) (c.put_decimal-after_done.ensures
    ∙ ap (put_of (decimal_of c.args.end.done)) c.put_characters-after_end.ensures)))
    ∙ put_five (101 ∷ 110 ∷ 100 ∷ 32 ∷ []) (decimal_of c.args.end.done) (32 ∷ []) (decimal_of c.args.end.number) (10 ∷ [])
    (filled c.args.at c.args.text.now) in record {
      text_after = e;
      upper_bound = omega (
        arith,
        place_of e,
        end_length c.args.end.done c.args.end.number (omega arith),
      );
    }
