-- What a program prints of a run: document 01, "Tape": "it prints `10 FFFFFF55` (clock, driven word in hex), then `end
-- 100 0` (clocks done, number or 0)". Characters are their ASCII codes.
use Rattle.std.specs.Prelude.{cond, List, [], ◌∷◌, ◌++◌, ℕ, zero, suc, ◌+◌, ◌/◌, ◌%◌, ltb, length}
use Rattle.std.proofs.lemmas.List.Edits.{sets}

-- `0` to `9`, then `A` to `F`
unfoldable pub digit_of : ℕ → ℕ
digit_of value = cond (ltb value 10) (48 + value) (55 + value)

-- the last `count` digits of a number, the highest first
unfoldable pub digits_of : ℕ → ℕ → ℕ → List ℕ
digits_of base zero n = []
digits_of base (suc count) n = digits_of base count (n / base) ++ (digit_of (n % base) ∷ [])

-- how many decimal digits a number has, of which it has `more` + 1 at most
unfoldable pub digit_count : ℕ → ℕ → ℕ
digit_count zero n = 1
digit_count (suc more) n = cond (ltb n 10) 1 (1 + digit_count more (n / 10))

-- a number of 32 bits in decimal: ten digits at most
unfoldable pub decimal_of : ℕ → List ℕ
decimal_of n = digits_of 10 (digit_count 9 n) n

-- a driven word: eight digits
unfoldable pub hex_word : ℕ → List ℕ
hex_word word = digits_of 16 8 word

abbrev pub blank : ℕ
blank = 32

abbrev pub line_end : ℕ
line_end = 10

-- `10 FFFFFF55`: "clock, driven word in hex"
unfoldable pub record_line : ℕ → ℕ → List ℕ
record_line clock word = decimal_of clock ++ ((blank ∷ []) ++ (hex_word word ++ (line_end ∷ [])))

-- `end 100 0`: "clocks done, number or 0"
unfoldable pub end_line : ℕ → ℕ → List ℕ
end_line done number =
    (101 ∷ 110 ∷ 100 ∷ blank ∷ []) ++ (decimal_of done ++ ((blank ∷ []) ++ (decimal_of number ++ (line_end ∷ []))))

-- a line for each record
unfoldable pub record_lines : List ℕ → List ℕ → List ℕ
record_lines [] words = []
record_lines (clock ∷ times) [] = []
record_lines (clock ∷ times) (word ∷ words) = record_line clock word ++ record_lines times words

-- the records, then the end line
unfoldable pub outcome_lines : List ℕ → List ℕ → ℕ → ℕ → List ℕ
outcome_lines times words done number = record_lines times words ++ end_line done number

-- a lent text, of which the characters before `place` are filled in
pub record Filled : Type 0 where
  pub place : ℕ
  pub text : List ℕ

abbrev pub filled : ℕ → List ℕ → Filled
filled place text = record { place = place; text = text }

-- characters put behind those that are; what stands behind them stays
abbrev pub put_of : List ℕ → Filled → Filled
put_of characters w = filled (w.place + length characters) (sets w.text w.place characters)
