-- What holds of the whole table, each by one computed test: 183 opcodes are defined (P8 of document 01), each by one
-- row, and a defined one takes 2 to 7 clocks.
use mathlib.Core.Path.{◌≡◌, refl}
use mathlib.Core.Bool.{Bool, true, cond, ◌&&◌}
use mathlib.Core.List.{List, [], ◌∷◌}
use Prim.Native.Nat.{ℕ, ◌+◌, ◌<◌, ◌≤◌}
use Rattle.std.specs.Prelude.{Option, Some, None}
use lib.Dec.{T, leb, eqb, leb→le, eqb→eq}
use lib.ListN.{length}
use Rattle.bits.specs.Lists.{all_of, tabulate}
use Rattle.bits.proofs.Cond.{cond_both, both_left, both_right}
use Rattle.bits.proofs.Tables.{below}
use Rattle.cpu_opcodes.specs.InstructionSet.{Row, rows}
use Rattle.cpu_opcodes.specs.Decode.{look_up, decode_of, defined, count_defined}
use Rattle.cpu_opcodes.specs.declared.Entry.{Entry}

-- P8: "183 opcodes are defined"
pub p8 : count_defined (tabulate decode_of 256 0) ≡ 183
unfolding decode_of
p8 = refl

-- how many rows list opcode o
abbrev pub times_listed : ℕ → List Row → ℕ
times_listed o [] = 0
times_listed o (r ∷ rs) = cond (eqb o r.opcode) 1 0 + times_listed o rs

once_at : ℕ → Bool
once_at o = eqb (times_listed o rows) (defined (decode_of o))

-- no row is shadowed: a defined opcode has one row, an undefined one none
pub listed_once : (o : ℕ) → o < 256 → times_listed o rows ≡ defined (decode_of o)
unfolding once_at decode_of
listed_once o h = eqb→eq (times_listed o rows) (defined (decode_of o)) (below once_at 256 tt o h)

-- and there is no row besides, for an opcode above 255
pub rows_183 : length rows ≡ 183
rows_183 = refl

-- a test that each row's entry passes is passed by whatever is looked up
abbrev pub passes : (Entry → Bool) → Option Entry → Bool
passes p None = true
passes p (Some e) = p e

pub looked_up : (p : Entry → Bool) (o : ℕ) (rs : List Row) → T (all_of (λ r. p r.entry) rs)
    → T (passes p (look_up o rs))
looked_up p o [] t = tt
looked_up p o (r ∷ rs) t =
    cond_both (λ d. T (passes p d)) (eqb o r.opcode) (Some r.entry) (look_up o rs)
    (λ h. both_left (p r.entry) _ t)
    (λ h. looked_up p o rs (both_right (p r.entry) _ t))

-- 01, Instructions: "Lengths are 2 to 7 clocks"
pub record LengthFits (e : Entry) : Type 0 where
  pub least : 2 ≤ e.length
  pub most : e.length ≤ 7

length_fits : Entry → Bool
length_fits e = leb 2 e.length && leb e.length 7

pub length_fits_lem : (o : ℕ) (e : Entry) → decode_of o ≡ Some e → LengthFits e
unfolding decode_of length_fits
length_fits_lem o e h =
    let t : T (length_fits e) = rw h at (looked_up length_fits o rows tt) in
    record {
      least = leb→le 2 e.length (both_left (leb 2 e.length) _ t);
      most = leb→le e.length 7 (both_right (leb 2 e.length) _ t);
    }
