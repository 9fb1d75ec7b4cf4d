-- Bits put in turn into the receiver's register, in either mode, and what is read off it.
use mathlib.Core.Path.{◌≡◌, refl, ap, ◌∙◌, sym}
use mathlib.Core.Bool.{Bool, true, false, cond}
use mathlib.Core.List.{List, [], ◌∷◌, ◌++◌}
use Prim.Native.Nat.{ℕ, suc, ◌+◌, ◌-◌, ◌*◌, ◌/◌, ◌%◌, ◌^◌, ◌≤◌, ◌<◌}
use native.Mathlib.Nat.{div-one, pow-suc, mul_comm, mul_assoc, add-mul-div_right, add-mul-div_left, mul-add}
use native.Mathlib.Nat.{div-eq_of_lt, zero-add, mod-eq_of_lt, add-mul-mod_self_left}
use native.Mathlib.Omega.{arith}
use lib.Dec.{eqb, ltb}
use lib.ListN.{length, length-append}
use borrow.Author.Tests.{ne_eqb}
use lib.Pow.{pow_pos, pow-add, shr-shr, shr_lt}
use Rattle.bits.specs.Bits.{bit, one_where, set_where}
use Rattle.bits.specs.Lists.{number_of_bits, tabulate}
use Rattle.bits.proofs.Cond.{one_where_le}
use Rattle.bits.proofs.Numbers.{number_append, number_lt}
use Rattle.serial_receiver.specs.declared.Receiver.{Receiver}
use Rattle.serial_receiver.specs.declared.Receiving.{Receiving}
use Rattle.serial_format.specs.Format.{width, has_parity}
use Rattle.serial_receiver.specs.Receiver.{receiving, with_level, kept_with, scsr_after, received_byte, frame_ended}
use Rattle.serial_receiver.specs.Receiver.{look_taken, looked, receive_tick, shifted_at_rise, byte_ended, receive_rise}

-- levels put one after another
abbrev pub put_all : ℕ → List Bool → ℕ
put_all register [] = register
put_all register (high ∷ levels) = put_all (with_level register high) levels

-- where n more levels are to come, at most ten, a level put now ends n places below bit 10
put_far : (register n : ℕ) (high : Bool) → n ≤ 10
    → with_level register high / 2 ^ n ≡ register / 2 ^ suc n + one_where high * 2 ^ (10 - n)
unfolding with_level
put_far register n high h =
    let ten : 10 - n + n ≡ 10 = omega arith in
    let whole : 2 ^ (10 - n) * 2 ^ n ≡ 1024 = sym (pow-add 2 (10 - n) n) ∙ ap (λ k. 2 ^ k) ten in
    let parts : one_where high * 1024 ≡ one_where high * 2 ^ (10 - n) * 2 ^ n =
    ap (λ k. one_where high * k) (sym whole) ∙ sym (mul_assoc (one_where high) (2 ^ (10 - n)) (2 ^ n)) in
    let far : (register / 2 + one_where high * 2 ^ (10 - n) * 2 ^ n) / 2 ^ n
    ≡ register / 2 / 2 ^ n + one_where high
    * 2 ^ (10 - n) = add-mul-div_right (register / 2) (one_where high * 2 ^ (10 - n)) (pow_pos n) in
    let one : 1 + n ≡ suc n = omega arith in
    let down : register / 2 / 2 ^ n ≡ register / 2 ^ suc n = shr-shr register 1 n ∙ ap (λ k. register / 2 ^ k) one in
    ap (λ k. (register / 2 + k) / 2 ^ n) parts ∙ far ∙ ap (λ k. k + one_where high * 2 ^ (10 - n)) down

-- Bits put in turn: at most eleven levels stand at the register's top, the first lowest, whatever it held before.
pub put_in_turn : (register : ℕ) (levels : List Bool) → length levels ≤ 11
    → put_all register levels ≡ register / 2 ^ length levels + 2 ^ (11 - length levels) * number_of_bits levels
put_in_turn register [] h = rw div-one (omega arith)
put_in_turn register (high ∷ levels) h =
    let n = length levels in
    let short : n ≤ 10 = omega arith in
    let rest = put_in_turn (with_level register high) levels (omega arith) in
    let far = put_far register n high short in
    let less : 11 - n ≡ suc (10 - n) = omega arith in
    let twice : 2 ^ (11 - n) ≡ 2 ^ (10 - n) * 2 = ap (λ k. 2 ^ k) less ∙ pow-suc 2 (10 - n) in
    let lower : 11 - suc n ≡ 10 - n = omega arith in
    let later : 2 ^ (11 - n) * number_of_bits levels ≡ 2 ^ (10 - n) * (2 * number_of_bits levels) =
    ap (λ k. k * number_of_bits levels) twice ∙ mul_assoc (2 ^ (10 - n)) 2 (number_of_bits levels) in
    let both : 2 ^ (10 - n) * (one_where high + 2 * number_of_bits levels)
    ≡ 2 ^ (10 - n) * one_where high + 2 ^ (10 - n)
    * (2 * number_of_bits levels) = mul-add (2 ^ (10 - n)) (one_where high) (2 * number_of_bits levels) in
    let here = mul_comm (one_where high) (2 ^ (10 - n)) in
    rw lower (omega (arith, rest, far, later, both, here))

-- what the register held before is gone from the top
pub top_in_turn : (register : ℕ) (levels : List Bool) → length levels ≤ 11 → register < 2048
    → put_all register levels / 2 ^ (11 - length levels) ≡ number_of_bits levels
top_in_turn register levels h g =
    let n = length levels in
    let eleven : 11 - n + n ≡ 11 = omega arith in
    let old : register / 2 ^ n < 2 ^ (11 - n) = shr_lt (11 - n) n (rw eleven g) in
    ap (λ k. k / 2 ^ (11 - n)) (put_in_turn register levels h)
    ∙ add-mul-div_left (register / 2 ^ n) (number_of_bits levels) (pow_pos (11 - n))
    ∙ ap (λ k. k + number_of_bits levels) (div-eq_of_lt old)
    ∙ zero-add (number_of_bits levels)

-- ---- eight rises in shift-register mode

-- rises of PA4 with these levels of PA7
abbrev pub risen : List Bool → Receiving → Receiving
risen [] x = x
risen (high ∷ levels) x = risen levels (receive_rise x.receiver x.scsr x.received high)

abbrev pub with_register : Receiver → ℕ → ℕ → Receiver
with_register r left register = record { subinterval = r.subinterval; half = r.half; left = left; register = register }

-- eight levels, from no bits left, whatever register, sub-interval and half: the byte is their number
pub byte_received : (r : Receiver) (scsr received : ℕ) (a b c d e f g h : Bool) → r.register < 2048
    → let levels : List Bool = a ∷ b ∷ c ∷ d ∷ e ∷ f ∷ g ∷ h ∷ [] in
    risen levels (receiving (with_register r 0 r.register) scsr received)
    ≡ kept_with (number_of_bits levels) (with_register r 0 (put_all r.register levels)) (scsr_after scsr false false) scsr
    received
unfolding receive_rise shifted_at_rise byte_ended
byte_received r scsr received a b c d e f g h lt =
    let levels : List Bool = a ∷ b ∷ c ∷ d ∷ e ∷ f ∷ g ∷ h ∷ [] in
    let top : put_all r.register levels / 8 ≡ number_of_bits levels =
    top_in_turn r.register levels (omega arith) lt in
    let small : number_of_bits levels < 256 = number_lt levels in
    let byte : put_all r.register levels / 8 % 256 ≡ number_of_bits levels =
    ap (λ k. k % 256) top ∙ mod-eq_of_lt small in
    ap (λ k. kept_with k (with_register r 0 (put_all r.register levels)) (scsr_after scsr false false) scsr received)
    byte

-- SCSR0 clear: the byte is kept and SCSR0 set; else SCSR1 is set and the old byte stays. SCSR2 and SCSR3 are not
-- touched.
pub byte_kept : (r : Receiver) (byte scsr received : ℕ) → bit 0 scsr ≡ false
    → kept_with byte r (scsr_after scsr false false) scsr received ≡ receiving r (set_where 0 true scsr) byte
unfolding kept_with scsr_after set_where
byte_kept r byte scsr received e = rw e

pub byte_dropped : (r : Receiver) (byte scsr received : ℕ) → bit 0 scsr ≡ true
    → kept_with byte r (scsr_after scsr false false) scsr received ≡ receiving r (set_where 1 true scsr) received
unfolding kept_with scsr_after set_where
byte_dropped r byte scsr received e = rw e

-- ---- an asynchronous frame

-- data levels, then parity or none, then the stop
pub frame_received : (sccr register : ℕ) (levels ending : List Bool) → length levels ≡ width sccr
    → length ending ≡ one_where (has_parity sccr) + 1
    → register < 2048 → received_byte sccr (put_all register (levels ++ ending)) ≡ number_of_bits levels
unfolding received_byte
frame_received sccr register levels ending l e lt =
    let p = one_where_le (has_parity sccr) in
    let n : length (levels ++ ending) ≡ width sccr + (one_where (has_parity sccr) + 1) =
    length-append levels ending ∙ rw (l, e) in
    let place : 10 - one_where (has_parity sccr) - width sccr ≡ 11 - length (levels ++ ending) = omega (arith, p, n) in
    let top = top_in_turn register (levels ++ ending) (omega (arith, p, n)) lt in
    let split = number_append levels ending in
    rw (place, top, split, l)
    (add-mul-mod_self_left (number_of_bits levels) (2 ^ width sccr) (number_of_bits ending) ∙ mod-eq_of_lt
    (rw l at (number_lt levels)))

-- ---- the same by ticks: a look each second tick, and each eighth look takes the level

-- ticks of an asynchronous receiver with these levels of PA7
abbrev pub heard_for : ℕ → List Bool → Receiving → Receiving
heard_for sccr [] x = x
heard_for sccr (high ∷ levels) x = heard_for sccr levels (receive_tick x.receiver sccr x.scsr x.received high)

heard_append : (sccr : ℕ) (a b : List Bool) (x : Receiving)
    → heard_for sccr (a ++ b) x ≡ heard_for sccr b (heard_for sccr a x)
heard_append sccr [] b x = refl
heard_append sccr (high ∷ a) b x = heard_append sccr a b (receive_tick x.receiver sccr x.scsr x.received high)

-- the sixteen ticks of a bit: at the last PA7 has this level, at the others any
abbrev pub bit_heard : (ℕ → Bool) → Bool → List Bool
bit_heard others high = tabulate others 15 0 ++ (high ∷ [])

module _ (sccr scsr received : ℕ) where
  abbrev pub at_bit : ℕ → ℕ → ℕ → Receiving
  at_bit subinterval left register =
      receiving (record { subinterval = subinterval; half = false; left = left; register = register }) scsr received

  -- two ticks, of which the second looks, before the eighth look
  one_look : (n left register : ℕ) (a b : Bool) (rest : List Bool) → eqb left 0 ≡ false → ltb n 7 ≡ true
      → heard_for sccr (a ∷ b ∷ rest) (at_bit n left register) ≡ heard_for sccr rest (at_bit (n + 1) left register)
  unfolding receive_tick looked look_taken
  one_look n left register a b rest some few = rw (some, few) refl

  -- the eighth look takes the level
  abbrev pub level_taken : ℕ → ℕ → Bool → Receiving
  level_taken left register high =
      cond (eqb (left - 1) 0)
      (frame_ended (record { subinterval = 0; half = false; left = left - 1; register = with_level register high }) sccr
      scsr received)
      (at_bit 0 (left - 1) (with_level register high))

  eighth_look : (left register : ℕ) (a high : Bool) → eqb left 0 ≡ false
      → heard_for sccr (a ∷ high ∷ []) (at_bit 7 left register) ≡ level_taken left register high
  unfolding receive_tick looked look_taken
  eighth_look left register a high some = rw some refl

  -- sixteen ticks with bits left take the last tick's level, whatever the others
  pub bit_heard_lem : (left register : ℕ) (others : ℕ → Bool) (high : Bool) → eqb left 0 ≡ false
      → heard_for sccr (bit_heard others high) (at_bit 0 left register) ≡ level_taken left register high
  bit_heard_lem left register others high some =
      one_look 0 left register (others 0) (others 1) (tabulate others 13 2 ++ (high ∷ [])) some refl
      ∙ one_look 1 left register (others 2) (others 3) (tabulate others 11 4 ++ (high ∷ [])) some refl
      ∙ one_look 2 left register (others 4) (others 5) (tabulate others 9 6 ++ (high ∷ [])) some refl
      ∙ one_look 3 left register (others 6) (others 7) (tabulate others 7 8 ++ (high ∷ [])) some refl
      ∙ one_look 4 left register (others 8) (others 9) (tabulate others 5 10 ++ (high ∷ [])) some refl
      ∙ one_look 5 left register (others 10) (others 11) (tabulate others 3 12 ++ (high ∷ [])) some refl
      ∙ one_look 6 left register (others 12) (others 13) (tabulate others 1 14 ++ (high ∷ [])) some refl
      ∙ eighth_look left register (others 14) high some

  -- the ticks of a frame's levels
  abbrev pub levels_heard : (ℕ → ℕ → Bool) → List Bool → List Bool
  levels_heard others [] = []
  levels_heard others (high ∷ levels) = bit_heard (others (length levels)) high ++ levels_heard others levels

  -- so the levels are put in turn, and the last one ends the frame
  pub heard_in_turn : (others : ℕ → ℕ → Bool) (levels : List Bool) (last : Bool) (register : ℕ)
      → heard_for sccr (levels_heard others (levels ++ (last ∷ []))) (at_bit 0 (suc (length levels)) register)
      ≡ frame_ended
      (record { subinterval = 0; half = false; left = 0; register = put_all register (levels ++ (last ∷ [])) }) sccr scsr
      received
  heard_in_turn others [] last register =
      bit_heard_lem 1 register (others 0) last refl
  heard_in_turn others (high ∷ levels) last register =
      let ticks = levels_heard others (levels ++ (last ∷ [])) in
      let here = bit_heard (others (length (levels ++ (last ∷ [])))) high in
      let some : eqb (suc (suc (length levels))) 0 ≡ false = ne_eqb (suc (suc (length levels))) 0 (λ e. omega arith) in
      let less : suc (suc (length levels)) - 1 ≡ suc (length levels) = omega arith in
      let more : eqb (suc (length levels)) 0 ≡ false = ne_eqb (suc (length levels)) 0 (λ e. omega arith) in
      heard_append sccr here ticks (at_bit 0 (suc (suc (length levels))) register)
      ∙ ap (heard_for sccr ticks) (bit_heard_lem (suc (suc (length levels))) register
      (others (length (levels ++ (last ∷ [])))) high some ∙ rw (less, more) refl)
      ∙ heard_in_turn others levels last (with_level register high)
