use native.Mathlib.Omega.{arith}
use mathlib.Core.Path.{ap, ◌∙◌}
use mathlib.Core.List.{[], ◌∷◌}
use Rattle.record_text.specs.Lines.{decimal_of, hex_word, record_line, filled, put_of}
use Rattle.record_text.proofs.Laws.{place_of, put_four, decimal_length, word_length}
use Rattle.record_text.proofs.put_line.Goals as goal

pub put_decimal-after_clock-requires : goal.put_decimal-after_clock-requires
put_decimal-after_clock-requires c = omega (arith, decimal_length c.args.clock)

pub put_characters-after_space-requires : goal.put_characters-after_space-requires
put_characters-after_space-requires c = omega (
  arith,
  place_of c.put_decimal-after_clock.ensures,
  decimal_length c.args.clock,
)

pub put_word-after_word-requires : goal.put_word-after_word-requires
put_word-after_word-requires c = omega (
  arith,
  place_of c.put_decimal-after_clock.ensures,
  place_of c.put_characters-after_space.ensures,
  decimal_length
      c.args.clock,
)

pub put_characters-requires : goal.put_characters-requires
put_characters-requires c = omega (
  arith,
  place_of c.put_decimal-after_clock.ensures,
  place_of c.put_characters-after_space.ensures,
  place_of c.put_word-after_word.ensures,
  decimal_length c.args.clock,
  word_length c.args.word,
)

pub returns : goal.returns
unfolding record_line
returns c = c.put_characters.ensures
    ∙ ap (put_of (10 ∷ [])) (c.put_word-after_word.ensures
    ∙ ap (put_of (hex_word c.args.word)) (c.put_characters-after_space.ensures
    ∙ ap (put_of (32 ∷ [])) c.put_decimal-after_clock.ensures))
    ∙ put_four (decimal_of c.args.clock) (32 ∷ []) (hex_word
    c.args.word) (10 ∷ []) (filled c.args.at c.args.text.now)
