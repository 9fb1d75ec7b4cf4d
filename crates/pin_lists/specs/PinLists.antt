-- Document 01, "Pin lists": what an input code says, the rule of an input list, and the inputs of one clock. Chips
-- differ in their last pin.
use Rattle.std.specs.Prelude.{Bool, true, false, ◌&&◌, ◌||◌, cond, List, [], ◌∷◌, ℕ, suc, ◌%◌, leb, ltb, eqb}
use Rattle.bits.specs.Bits.{bit}

-- "pin 0 to 31 (A0 to D7), 32 NMI, 33 RES, plus 64 where the new level is high"
abbrev pub pin_of : ℕ → ℕ
pin_of code = code % 64

abbrev pub high_of : ℕ → Bool
high_of code = bit 6 code

-- a code of a pin list
unfoldable pub code_right : ℕ → ℕ → Bool
code_right last_pin code = ltb code 128 && leb (pin_of code) last_pin

-- "Clocks never fall; within one clock pins rise strictly.": what may stand behind an entry of this clock and pin
unfoldable pub entry_right : ℕ → ℕ → ℕ → ℕ → ℕ → Bool
entry_right last_pin clock pin t code = code_right last_pin code && (ltb clock t || (eqb clock t && ltb pin (pin_of code)))

-- the entries behind one of this clock and pin; "two lent lists of equal length"
unfoldable pub rest_right : ℕ → ℕ → ℕ → List ℕ → List ℕ → Bool
rest_right last_pin clock pin [] [] = true
rest_right last_pin clock pin [] (code ∷ codes) = false
rest_right last_pin clock pin (t ∷ ts) [] = false
rest_right last_pin clock pin (t ∷ ts) (code ∷ codes) =
    entry_right last_pin clock pin t code && rest_right last_pin t (pin_of code) ts codes

-- the whole rule, for a state of this clock: "The first clock is above the state's."
unfoldable pub pins_right : ℕ → ℕ → List ℕ → List ℕ → Bool
pins_right last_pin clock [] [] = true
pins_right last_pin clock [] (code ∷ codes) = false
pins_right last_pin clock (t ∷ ts) [] = false
pins_right last_pin clock (t ∷ ts) (code ∷ codes) =
    code_right last_pin code && ltb clock t && rest_right last_pin t (pin_of code) ts codes

-- 01, One clock, 1: "inputs of that clock": how many entries at the front are of this clock
unfoldable pub input_count : ℕ → List ℕ → ℕ
input_count clock [] = 0
input_count clock (t ∷ ts) = cond (eqb t clock) (suc (input_count clock ts)) 0
