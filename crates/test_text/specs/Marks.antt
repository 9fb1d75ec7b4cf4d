-- Where a mark stands next in a text.
use Rattle.std.specs.Prelude.{cond, List, [], ◌∷◌, ℕ, ◌+◌, eqb, drop}

-- the characters before the first mark; all of them where there is none
unfoldable pub unmarked : ℕ → List ℕ → ℕ
unmarked mark [] = 0
unmarked mark (c ∷ text) = cond (eqb c mark) 0 (1 + unmarked mark text)

-- the first place from `from` on at which the mark stands or no text is left
abbrev pub next_mark : ℕ → List ℕ → ℕ → ℕ
next_mark mark text from = from + unmarked mark (drop from text)
