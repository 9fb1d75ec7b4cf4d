-- 02, U4: an instruction or entry "tells which addresses it wrote, at most three, in order". The writes as a list; what
-- is done with each write in turn is done along that list; and a halt address is one of it.
use Rattle.std.proofs.Common.{◌≡◌, ℕ, zero, suc, ◌≤◌, Bool, true, false, ◌&&◌, ◌||◌, eqb, List, [], ◌∷◌, length, take, sym, refl, ◌∙◌, arith, length-take, take_all, lt-ltb, None, Option, Some}
use Rattle.cpu_access.specs.declared.stack.Write.{Write}
use Rattle.cpu_access.specs.declared.stack.Writes.{Writes}
use Rattle.cpu_access.specs.Stack.{each_write}
use Rattle.cpu_access.specs.Accesses.{in_order}
use Rattle.cpu_access.specs.Halt.{is_written, halts}

-- the writes that there are, in order
abbrev pub told : Writes → List Write
told w = take w.count (w.first ∷ w.second ∷ w.third ∷ [])

pub told_three : (w : Writes) → length (told w) ≤ 3
told_three w = omega (arith, length-take w.count (w.first ∷ w.second ∷ w.third ∷ []))

-- of accesses that write at most three bytes just these are told, in order
pub told_in_order : (ws : List Write) → length ws ≤ 3 → told (in_order ws) ≡ ws
unfolding in_order
told_in_order [] h = refl
told_in_order (a ∷ []) h = refl
told_in_order (a ∷ b ∷ []) h = refl
told_in_order (a ∷ b ∷ c ∷ []) h = refl
told_in_order (a ∷ b ∷ c ∷ d ∷ more) h = absurd (omega arith)

-- one after the other
abbrev pub in_turn : {A : Type 0} → (Write → A → A) → List Write → A → A
in_turn f [] a = a
in_turn f (x ∷ later) a = in_turn f later (f x a)

-- what is done with each write, where nothing is done with one that is not there
module _ {A : Type 0} (put : Bool → Write → A → A) (none : (x : Write) (a : A) → put false x a ≡ a) where
  by_count : (count : ℕ) (x y z : Write) (a : A)
      → each_write put (record { count = count; first = x; second = y; third = z }) a
      ≡ in_turn (put true) (take count (x ∷ y ∷ z ∷ [])) a
  by_count zero x y z a = none z _ ∙ none y _ ∙ none x a
  by_count (suc zero) x y z a = none z _ ∙ none y _
  by_count (suc (suc zero)) x y z a = none z _
  by_count (suc (suc (suc n))) x y z a =
      let m = suc (suc (suc n)) in
      rw (
        lt-ltb 0 m (omega arith),
        lt-ltb 1 m (omega arith),
        lt-ltb 2 m (omega arith),
        take_all m (x ∷ y ∷ z ∷ []) (omega arith),
      )

  pub each_told : (w : Writes) (a : A) → each_write put w a ≡ in_turn (put true) (told w) a
  each_told w a = by_count w.count w.first w.second w.third a

-- one of the writes told is at this address
abbrev pub told_at : ℕ → List Write → Bool
told_at address [] = false
told_at address (x ∷ later) = eqb x.address address || told_at address later

module _ (address : ℕ) where
  abbrev found : Bool → Write → Bool → Bool
  found there x before = before || (there && eqb x.address address)

  or_none : (b : Bool) → (b || false) ≡ b
  or_none true = refl
  or_none false = refl

  found_once : (l : List Write) (b : Bool) → in_turn (found true) l b ≡ (b || told_at address l)
  found_once [] b = sym (or_none b)
  found_once (x ∷ later) b =
      found_once later (b || eqb x.address address) ∙ grouped b (eqb x.address address) (told_at address later)
    where
      grouped : (p q r : Bool) → ((p || q) || r) ≡ (p || (q || r))
      grouped true q r = refl
      grouped false q r = refl

  -- "the instruction that writes a chosen address": it is one of those told, by a push or not, a register's or not
  pub halts_told : (w : Writes) → halts (Some address) w ≡ told_at address (told w)
  unfolding halts is_written
  halts_told w = each_told found (λ x b. or_none b) w false ∙ found_once (told w) false

-- what writes nothing writes no halt address
pub unwritten : (halt : Option ℕ) (w : Writes) → w.count ≡ 0 → halts halt w ≡ false
unfolding halts is_written
unwritten None w e = refl
unwritten (Some address) w e = rw e
