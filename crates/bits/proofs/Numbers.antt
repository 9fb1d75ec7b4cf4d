-- Laws of the number that bits write.
use mathlib.Core.Path.{◌≡◌, ap, ◌∙◌}
use mathlib.Core.Bool.{Bool}
use mathlib.Core.List.{List, [], ◌∷◌, ◌++◌}
use Prim.Native.Nat.{suc, ◌+◌, ◌*◌, ◌^◌, ◌<◌}
use native.Mathlib.Nat.{one-mul, pow-suc, mul_assoc, mul_comm}
use native.Mathlib.Omega.{arith}
use lib.ListN.{length}
use Rattle.bits.proofs.Cond.{one_where_le}
use Rattle.bits.specs.Lists.{number_of_bits}

-- bits after others count from where those end
pub number_append : (xs ys : List Bool) → number_of_bits (xs ++ ys) ≡ number_of_bits xs + 2 ^ length xs * number_of_bits ys
number_append [] ys = rw one-mul (omega arith)
number_append (b ∷ l) ys =
    let e = number_append l ys in
    let p : 2 ^ suc (length l) * number_of_bits ys ≡ 2 * (2 ^ length l * number_of_bits ys) =
    ap (λ k. k * number_of_bits ys) (pow-suc 2 (length l) ∙ mul_comm _ _) ∙ mul_assoc 2 (2 ^ length l)
    (number_of_bits ys) in
    omega (arith, e, p)

-- n bits write a number below 2 to the n
pub number_lt : (l : List Bool) → number_of_bits l < 2 ^ length l
number_lt [] = omega arith
number_lt (b ∷ l) =
    let h = number_lt l in
    let p : 2 ^ suc (length l) ≡ 2 ^ length l * 2 = pow-suc 2 (length l) in
    omega (arith, one_where_le b, p)
