-- Document 01's example as lines: 02, U6, "The `replay` example's first line becomes `12 FFFFFF55`", then `end 100 0`.
use mathlib.Core.Path.{◌≡◌, refl}
use mathlib.Core.List.{[], ◌∷◌}
use Rattle.record_text.specs.Lines.{digit_of, digits_of, digit_count, decimal_of, hex_word, record_line, end_line}

pub record_example : record_line 12 0xFFFFFF55 ≡ 49 ∷ 50 ∷ 32 ∷ 70 ∷ 70 ∷ 70 ∷ 70 ∷ 70 ∷ 70 ∷ 53 ∷ 53 ∷ 10 ∷ []
unfolding digit_of digits_of digit_count decimal_of hex_word record_line
record_example = refl

pub end_example : end_line 100 0 ≡ 101 ∷ 110 ∷ 100 ∷ 32 ∷ 49 ∷ 48 ∷ 48 ∷ 32 ∷ 48 ∷ 10 ∷ []
unfolding digit_of digits_of digit_count decimal_of end_line
end_example = refl
