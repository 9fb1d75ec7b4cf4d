-- The receiver over ticks that cannot be seen.
use mathlib.Core.Path.{◌≡◌, refl, ◌∙◌}
use mathlib.Core.Bool.{Bool, true, false, ◌&&◌, not, cond}
use Prim.Native.Nat.{ℕ, zero, suc, ◌+◌, ◌-◌, ◌*◌, ◌/◌, ◌%◌, ◌≤◌, ◌<◌}
use native.Mathlib.Nat.{add-zero, sub-zero}
use native.Mathlib.Omega.{arith}
use lib.Dec.{leb, ltb, eqb}
use borrow.Author.Tests.{ltb-true, ltb-false, lt-ltb, leb-true, le-leb, eq-eqb, ne_eqb}
use Rattle.bits.specs.Bits.{one_where}
use Rattle.bits.proofs.Cond.{one_where_le, and_left, and_right}
use Rattle.counters.specs.Counters.{ticks_of}
use Rattle.serial_receiver.specs.declared.Receiver.{Receiver}
use Rattle.serial_format.specs.Format.{receiver_asynchronous}
use Rattle.serial_receiver.specs.Receiver.{receiving, at_half, with_level, start_detected, look_taken, looked, receive_tick}
use Rattle.serial_receiver.specs.Receiver.{receiver_clock}
use Rattle.r6501q_unseen.specs.Ticks.{unseen_looks, unseen_listens, with_levels, waited_looks, looked_for, heard_after}

-- ---- one look

-- a bit ends
abbrev ends : Receiver → Bool
ends r = not (eqb r.left 0) && not (ltb r.subinterval 7)

abbrev look_next : Receiver → Bool → Receiver
look_next r high = record {
  subinterval =
      cond (eqb r.left 0) (cond high 0 (r.subinterval + 1)) (cond (ltb r.subinterval 7) (r.subinterval + 1) 0);
  half = false;
  left = cond (ends r) (r.left - 1) r.left;
  register = cond (ends r) (with_level r.register high) r.register;
}

-- where a look cannot be seen: with no bits left and the line high or low, within a bit, or at the end of a bit that is
-- not the last
data LookKind (r : Receiver) (high : Bool) : Type 0 where
  idle : eqb r.left 0 ≡ true → high ≡ true → LookKind r high
  lows : eqb r.left 0 ≡ true → high ≡ false → r.subinterval < 3 → LookKind r high
  within : eqb r.left 0 ≡ false → r.subinterval < 7 → LookKind r high
  bit_end : eqb r.left 0 ≡ false → r.subinterval ≡ 7 → 1 < r.left → LookKind r high

look_kind : (r : Receiver) (high : Bool) → r.subinterval ≤ 7 → 0 < unseen_looks r high → LookKind r high
unfolding unseen_looks
look_kind r high s = by_tests (eqb r.left 0) high (ltb r.subinterval 7) refl refl refl
  where
    by_tests : (none h less : Bool) → eqb r.left 0 ≡ none → high ≡ h → ltb r.subinterval 7 ≡ less
        → 0 < unseen_looks r high → LookKind r high
    by_tests true true less e f g k = idle e f
    by_tests true false less e f g k = let m : 0 < 3 - r.subinterval = rw (e, f) at k in lows e f (omega arith)
    by_tests false h true e f g k = within e (ltb-true r.subinterval 7 g)
    by_tests false h false e f g k =
        let m : 0 < r.left * 8 - r.subinterval - 1 = rw e at k in
        let n = ltb-false r.subinterval 7 g in
        bit_end e (omega arith) (omega arith)

-- a look leaves status and data
look_taken_lem : (r : Receiver) (sccr scsr received : ℕ) (high : Bool) → LookKind r high
    → looked (at_half r false) sccr scsr received high ≡ receiving (look_next r high) scsr received
unfolding looked start_detected look_taken
look_taken_lem r sccr scsr received high (idle e f) = rw (e, f)
look_taken_lem r sccr scsr received high (lows e f k) = rw (e, f, lt-ltb r.subinterval 3 k)
look_taken_lem r sccr scsr received high (within e k) = rw (e, lt-ltb r.subinterval 7 k)
look_taken_lem r sccr scsr received high (bit_end e f k) =
    rw (e, f, ne_eqb (r.left - 1) 0 (λ z. omega arith))

-- one look fewer is left, and the sub-interval stays in range
look_less : (r : Receiver) (high : Bool) → LookKind r high
    → unseen_looks r high ≤ suc (unseen_looks (look_next r high) high)
unfolding unseen_looks
look_less r high (idle e f) = rw (e, f, e) (omega arith)
look_less r high (lows e f k) = rw (e, f, e) (omega arith)
look_less r high (within e k) = rw (e, lt-ltb r.subinterval 7 k, e) (omega arith)
look_less r high (bit_end e f k) = rw (e, f, ne_eqb (r.left - 1) 0 (λ z. omega arith)) (omega arith)

look_range : (r : Receiver) (high : Bool) → LookKind r high → (look_next r high).subinterval ≤ 7
look_range r high (idle e f) = rw (e, f) (omega arith)
look_range r high (lows e f k) = rw (e, f) (omega arith)
look_range r high (within e k) = rw (e, lt-ltb r.subinterval 7 k) (omega arith)
look_range r high (bit_end e f k) = rw (e, f) (omega arith)

cond_same : (t : Bool) (x : ℕ) → cond t x x ≡ x
cond_same true x = refl
cond_same false x = refl

-- one look and n are n + 1
look_more : (n : ℕ) (half : Bool) (r : Receiver) (high : Bool) → LookKind r high
    → looked_for n half (look_next r high) high ≡ looked_for (suc n) half r high
unfolding looked_for waited_looks with_levels
look_more n half r high (idle e f) = rw (e, f, e, ne_eqb (suc n) 0 (λ z. omega arith), cond_same (eqb n 0) 0)
look_more n half r high (lows e f k) =
    let d : r.subinterval + 1 + n ≡ r.subinterval + suc n = omega arith in
    rw (e, f, e, d)
look_more n half r high (within e k) =
    let d : r.subinterval + 1 + n ≡ r.subinterval + suc n = omega arith in
    rw (e, lt-ltb r.subinterval 7 k, e, d)
look_more n half r high (bit_end e f k) =
    let d : (7 + suc n) % 8 ≡ (0 + n) % 8 = omega arith in
    let q : (7 + suc n) / 8 ≡ suc ((0 + n) / 8) = omega arith in
    let l : r.left - suc ((0 + n) / 8) ≡ r.left - 1 - (0 + n) / 8 = omega arith in
    rw (e, f, ne_eqb (r.left - 1) 0 (λ z. omega arith), d, q, l)

look_none : (r : Receiver) (high : Bool) → r.subinterval ≤ 7 → looked_for 0 r.half r high ≡ r
unfolding looked_for waited_looks with_levels
look_none r high s = by_tests (eqb r.left 0) high
  where
    by_tests : (none h : Bool)
        → cond none (record {
          subinterval = cond h r.subinterval (r.subinterval + 0);
          half = r.half;
          left = r.left;
          register = r.register;
        })
        (record {
          subinterval = (r.subinterval + 0) % 8;
          half = r.half;
          left = r.left - (r.subinterval + 0) / 8;
          register = with_levels ((r.subinterval + 0) / 8) r.register h;
        }) ≡ r
    by_tests true true = refl
    by_tests true false = rw (add-zero r.subinterval)
    by_tests false h =
        let m : (r.subinterval + 0) % 8 ≡ r.subinterval = omega arith in
        let d : (r.subinterval + 0) / 8 ≡ 0 = omega arith in
        rw (m, d, sub-zero r.left)

-- ---- one tick

abbrev pub heard_next : Receiver → ℕ → Bool → Receiver
heard_next r sccr high = cond (receiver_asynchronous sccr) (cond r.half (look_next r high) (at_half r true)) r

-- where a tick cannot be seen: the receiver is not asynchronous, or makes no look, or one that cannot be seen
data TickKind (r : Receiver) (sccr : ℕ) (high : Bool) : Type 0 where
  still : receiver_asynchronous sccr ≡ false → TickKind r sccr high
  half : receiver_asynchronous sccr ≡ true → r.subinterval ≤ 7 → r.half ≡ false → TickKind r sccr high
  look : receiver_asynchronous sccr ≡ true → r.subinterval ≤ 7 → r.half ≡ true → LookKind r high → TickKind r sccr high

tick_kind : (r : Receiver) (sccr : ℕ) (high : Bool) → 0 < unseen_listens r sccr high → TickKind r sccr high
unfolding unseen_listens unseen_looks
tick_kind r sccr high = by_tests (receiver_asynchronous sccr) (leb r.subinterval 7) r.half refl refl refl
  where
    by_tests : (on fits h : Bool) → receiver_asynchronous sccr ≡ on → leb r.subinterval 7 ≡ fits → r.half ≡ h
        → 0 < unseen_listens r sccr high → TickKind r sccr high
    by_tests false fits h e f g k = still e
    by_tests true false h e f g k = let z : 0 < 0 = rw (e, f) at k in absurd (omega arith)
    by_tests true true false e f g k = half e (leb-true r.subinterval 7 f) g
    by_tests true true true e f g k =
        let s = leb-true r.subinterval 7 f in
        let z : 0 < 2 * unseen_looks r high + 1 - 1 = rw (e, f, g) at k in
        look e s g (look_kind r high s (omega arith))

pub hear_tick : (r : Receiver) (sccr scsr received : ℕ) (high : Bool) → 0 < unseen_listens r sccr high
    → receiver_clock r (ticks_of true) false sccr scsr received high ≡ receiving (heard_next r sccr high) scsr received
unfolding receiver_clock ticks_of receive_tick
hear_tick r sccr scsr received high h = by_kind (tick_kind r sccr high h)
  where
    by_kind : TickKind r sccr high
        → receiver_clock r (ticks_of true) false sccr scsr received high ≡ receiving (heard_next r sccr high) scsr received
    by_kind (still e) = rw e
    by_kind (half e s g) = rw (e, g)
    by_kind (look e s g k) = rw (e, g) (look_taken_lem r sccr scsr received high k)

pub hear_less : (r : Receiver) (sccr : ℕ) (high : Bool) → 0 < unseen_listens r sccr high
    → unseen_listens r sccr high ≤ suc (unseen_listens (heard_next r sccr high) sccr high)
unfolding unseen_listens unseen_looks
hear_less r sccr high h = by_kind (tick_kind r sccr high h)
  where
    by_kind : TickKind r sccr high → unseen_listens r sccr high ≤ suc (unseen_listens (heard_next r sccr high) sccr high)
    by_kind (still e) = rw e (omega arith)
    by_kind (half e s g) = rw (e, g, le-leb r.subinterval 7 s) (omega arith)
    by_kind (look e s g k) =
        let less = look_less r high k in
        rw (e, g, le-leb r.subinterval 7 s, le-leb (look_next r high).subinterval 7 (look_range r high k))
        (omega arith)

pub hear_more : (n : ℕ) (r : Receiver) (sccr : ℕ) (high : Bool) → 0 < unseen_listens r sccr high
    → heard_after n (heard_next r sccr high) sccr high ≡ heard_after (suc n) r sccr high
unfolding heard_after looked_for
hear_more n r sccr high h = by_kind (tick_kind r sccr high h)
  where
    by_kind : TickKind r sccr high → heard_after n (heard_next r sccr high) sccr high ≡ heard_after (suc n) r sccr high
    by_kind (still e) = rw e
    by_kind (half e s g) =
        let d : suc n + 0 ≡ n + 1 = omega arith in
        rw (e, g, le-leb r.subinterval 7 s, d)
    by_kind (look e s g k) =
        let d : (suc n + 1) / 2 ≡ suc ((n + 0) / 2) = omega arith in
        let m : (suc n + 1) % 2 ≡ (n + 0) % 2 = omega arith in
        rw (e, g, le-leb r.subinterval 7 s, le-leb (look_next r high).subinterval 7 (look_range r high k), d, m)
        (look_more ((n + 0) / 2) (eqb ((n + 0) % 2) 1) r high k)

pub hear_none : (r : Receiver) (sccr : ℕ) (high : Bool) → heard_after 0 r sccr high ≡ r
unfolding heard_after
hear_none r sccr high = by_tests (receiver_asynchronous sccr) (leb r.subinterval 7) refl refl
  where
    since_look : (h : Bool)
        → looked_for ((0 + one_where h) / 2) (eqb ((0 + one_where h) % 2) 1) r high ≡ looked_for 0 h r high
    since_look true = refl
    since_look false = refl

    by_tests : (on fits : Bool) → receiver_asynchronous sccr ≡ on → leb r.subinterval 7 ≡ fits
        → heard_after 0 r sccr high ≡ r
    by_tests false fits e f = rw e
    by_tests true false e f = rw (e, f)
    by_tests true true e f = rw (e, f) (since_look r.half ∙ look_none r high (leb-true r.subinterval 7 f))

-- ---- bits that end

pub levels_less : (n register : ℕ) (high : Bool) → 0 < n
    → with_levels (n - 1) (with_level register high) high ≡ with_levels n register high
unfolding with_levels
levels_less zero register high h = absurd (omega arith)
levels_less (suc n) register high h = let e : suc n - 1 ≡ n = omega arith in rw e

pub levels_none : (n register : ℕ) (high : Bool) → n ≤ 0 → with_levels n register high ≡ register
unfolding with_levels
levels_none n register high h = let e : n ≡ 0 = omega arith in rw e

-- ---- looks within ticks that cannot be seen

abbrev listens : Receiver → ℕ → Bool
listens r sccr = receiver_asynchronous sccr && leb r.subinterval 7

looks_within : (ticks : ℕ) (r : Receiver) (sccr : ℕ) (high : Bool) → listens r sccr ≡ true
    → ticks ≤ unseen_listens r sccr high
    → (ticks + one_where r.half) / 2 ≤ unseen_looks r high
unfolding unseen_listens
looks_within ticks r sccr high on h =
    let e = and_left (receiver_asynchronous sccr) (leb r.subinterval 7) on in
    let f = and_right (receiver_asynchronous sccr) (leb r.subinterval 7) on in
    by_half (one_where r.half) (unseen_looks r high) (one_where_le r.half) (rw (e, f) at h)
  where
    by_half : (one looks : ℕ) → one ≤ 1 → ticks ≤ 2 * looks + 1 - one → (ticks + one) / 2 ≤ looks
    by_half one looks s k = omega arith

-- with no bits left and the line low the sub-interval stays in range
pub waits_within : (ticks : ℕ) (r : Receiver) (sccr : ℕ) (high : Bool) → listens r sccr ≡ true
    → ticks ≤ unseen_listens r sccr high
    → r.left ≡ 0 → high ≡ false → r.subinterval + (ticks + one_where r.half) / 2 ≤ 7
unfolding unseen_looks
waits_within ticks r sccr high on h z l =
    let range = leb-true r.subinterval 7 (and_right (receiver_asynchronous sccr) (leb r.subinterval 7) on) in
    let looks : (ticks + one_where r.half) / 2 ≤ 3 - r.subinterval =
    rw (eq-eqb r.left 0 z, l) at (looks_within ticks r sccr high on h) in
    in_range r.subinterval ((ticks + one_where r.half) / 2) range looks
  where
    in_range : (s n : ℕ) → s ≤ 7 → n ≤ 3 - s → s + n ≤ 7
    in_range s n a b = omega arith

-- with bits left the last one does not end
pub takes_within : (ticks : ℕ) (r : Receiver) (sccr : ℕ) (high : Bool) → listens r sccr ≡ true
    → ticks ≤ unseen_listens r sccr high
    → (r.left ≡ 0 → ⊥) → r.subinterval + (ticks + one_where r.half) / 2 < r.left * 8
unfolding unseen_looks
takes_within ticks r sccr high on h z =
    let range = leb-true r.subinterval 7 (and_right (receiver_asynchronous sccr) (leb r.subinterval 7) on) in
    let looks : (ticks + one_where r.half) / 2 ≤ r.left * 8 - r.subinterval - 1 =
    rw (ne_eqb r.left 0 z) at (looks_within ticks r sccr high on h) in
    before_last r.subinterval r.left ((ticks + one_where r.half) / 2) range z looks
  where
    before_last : (s l n : ℕ) → s ≤ 7 → (l ≡ 0 → ⊥) → n ≤ l * 8 - s - 1 → s + n < l * 8
    before_last s l n a b c = omega arith
