-- What a call that is not refused has been given.
use mathlib.Core.Path.{◌≡◌, refl, sym}
use mathlib.Core.Bool.{Bool, true, false, ◌||◌, not, cond, false≢true}
use mathlib.Core.List.{List}
use Prim.Native.Nat.{ℕ, ◌+◌, ◌-◌, ◌≤◌, ◌<◌}
use native.Mathlib.Omega.{arith}
use lib.Dec.{ltb, eqb, lit<}
use lib.ListN.{length}
use borrow.Author.Tests.{eqb-true, ltb-true, ltb-false, eq-eqb, lt-ltb, le-ltb, not-false}
use Rattle.pin_lists.specs.PinLists.{pins_right}
use Rattle.refusals.specs.declared.Limits.{Limits}
use Rattle.refusals.specs.declared.Refusal.{Refusal}
use Rattle.refusals.specs.declared.Refusal.TheVariants.{
  MemoryLength,
  MalformedState,
  UnpairedLists,
  PastLastClock,
  BrokenPinList,
  PageList,
}
use Rattle.refusals.specs.Refusals.{last_clock, number_of, refusal_of}

-- no refusal's number is 0
pub number_some : (refusal : Refusal) → number_of refusal ≡ 0 → ⊥
number_some MemoryLength z = omega arith
number_some MalformedState z = omega arith
number_some UnpairedLists z = omega arith
number_some PastLastClock z = omega arith
number_some BrokenPinList z = omega arith
number_some PageList z = omega arith

-- a row of the table passed
passed : (number : ℕ) (so : Bool) (later : ℕ) → 0 < number → cond so number later ≡ 0 → (so ≡ false) × (later ≡ 0)
passed number true later h e = absurd (omega arith)
passed number false later h e = (refl, e)

-- neither of two tests holds
neither_left : (a b : Bool) → (a || b) ≡ false → a ≡ false
neither_left true b e = e
neither_left false b e = refl

neither_right : (a b : Bool) → (a || b) ≡ false → b ≡ false
neither_right true b e = absurd (false≢true (sym e))
neither_right false b e = e

module _ (limits : Limits) (formed : Bool) (clock bytes : ℕ) (clocks codes : List ℕ) (times words n : ℕ) where
  -- none of the table's rows 1 to 5 is so
  pub record Accepted : Type 0 where
    pub memory : bytes ≡ limits.memory
    pub state : formed ≡ true
    pub inputs : length clocks ≡ length codes
    pub outputs : times ≡ words
    pub most : clock + n ≤ last_clock
    pub pins : pins_right limits.pin clock clocks codes ≡ true

  -- number 0 is handed on just where they are as they should be
  pub accepted : refusal_of limits formed clock bytes clocks codes times words n ≡ 0 → Accepted
  unfolding refusal_of
  accepted e =
      let one = passed 1 (not (eqb bytes limits.memory)) _ (lit< tt) e in
      let two = passed 2 (not formed) _ (lit< tt) one.1 in
      let three = passed 3 (not (eqb (length clocks) (length codes)) || not (eqb times words)) _ (lit< tt) two.1 in
      let four = passed 4 (ltb last_clock (clock + n)) _ (lit< tt) three.1 in
      let five = passed 5 (not (pins_right limits.pin clock clocks codes)) _ (lit< tt) four.1 in
      record {
        memory = eqb-true _ _ (not-false _ one.0);
        state = not-false _ two.0;
        inputs =
            eqb-true _ _
            (not-false _ (neither_left (not (eqb (length clocks) (length codes))) (not (eqb times words)) three.0));
        outputs =
            eqb-true _ _
            (not-false _ (neither_right (not (eqb (length clocks) (length codes))) (not (eqb times words)) three.0));
        most = ltb-false _ _ four.0;
        pins = not-false _ five.0;
      }

  pub accepts : Accepted → refusal_of limits formed clock bytes clocks codes times words n ≡ 0
  unfolding refusal_of
  accepts a =
      rw (
        eq-eqb bytes limits.memory a.memory,
        a.state,
        eq-eqb (length clocks) (length codes) a.inputs,
        eq-eqb times words a.outputs,
        le-ltb last_clock (clock + n) a.most,
        a.pins,
      )

-- whether n clocks are more than are left
pub clocks_left : (last c n : ℕ) → c ≤ last → ltb (last - c) n ≡ ltb last (c + n)
clocks_left last c n h = which (ltb (last - c) n) refl
  where
    which : (b : Bool) → ltb (last - c) n ≡ b → b ≡ ltb last (c + n)
    which true e = sym (lt-ltb last (c + n) (omega (arith, ltb-true (last - c) n e)))
    which false e = sym (le-ltb last (c + n) (omega (arith, ltb-false (last - c) n e)))
