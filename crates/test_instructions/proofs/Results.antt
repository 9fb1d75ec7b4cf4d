-- Two results of calls that are the same.
use Rattle.std.proofs.Common.{◌≡◌, Bool, true, ◌&&◌, nat_eq}
use Rattle.std.proofs.lemmas.Bool.{eqb-true, and_parts}
use Rattle.r6501q_chip.specs.R6501q.{Result}

results_equal : (a b : Result) → a.number ≡ b.number → a.state ≡ b.state → a.leaps ≡ b.leaps
    → a.read ≡ b.read → a.written ≡ b.written → a ≡ b
results_equal a b number' state' leaps' read' written' =
    let whole : ◌≡◌ {A = Result}
    (record { number = a.number; state = a.state; leaps = a.leaps; read = a.read; written = a.written })
    (record { number = b.number; state = b.state; leaps = b.leaps; read = b.read; written = b.written }) = cc in
    whole

-- `t` tests the states
pub results_same : (a b : Result) (t : Bool)
    → ((((nat_eq a.number b.number && t) && nat_eq a.leaps b.leaps) && nat_eq a.read b.read)
    && nat_eq a.written b.written) ≡ true
    → (t ≡ true → a.state ≡ b.state) → a ≡ b
results_same a b t e same =
    let number = nat_eq a.number b.number in
    let leaps = nat_eq a.leaps b.leaps in
    let read = nat_eq a.read b.read in
    let fourth = and_parts (((number && t) && leaps) && read) (nat_eq a.written b.written) e in
    let third = and_parts ((number && t) && leaps) read fourth.0 in
    let second = and_parts (number && t) leaps third.0 in
    let first = and_parts number t second.0 in
    results_equal a b (eqb-true a.number b.number first.0) (same first.1) (eqb-true a.leaps b.leaps second.1)
    (eqb-true a.read b.read third.1) (eqb-true a.written b.written fourth.1)
