-- What holds of every bus that reads have left: only a register is asked for, and with an answer for each read nothing
-- is.
use Rattle.std.proofs.Common.{◌≡◌, ℕ, suc, ◌<◌, ◌≤◌, Bool, true, false, ltb, List, length, refl, arith, ltb-false, ltb-true}
use mathlib.Core.Bool.{false≢true}
use Rattle.bits.proofs.Cond.{cond_both}
use Rattle.cpu_access.specs.declared.Bus.{Bus}
use Rattle.cpu_access.specs.Bus.{unasked, got, answered, asking, ask_of}
use Rattle.memory.specs.Memory.{is_register}

-- what is asked for is a register; or nothing is asked
unfoldable pub AsksRegister : ℕ → Bus → Type 0
AsksRegister k b = b.missing ≡ true → b.address < 0x40

-- at most k answers were used, and none was missing if there are k
pub record Within (k : ℕ) (b : Bus) : Type 0 where
  pub given : b.missing ≡ false
  pub used : b.used ≤ k

unfoldable pub Answered : List ℕ → ℕ → Bus → Type 0
Answered answers k b = k ≤ length answers → Within k b

pub unasked_asks_register : (k : ℕ) → AsksRegister k unasked
unfolding AsksRegister
unasked_asks_register k e = absurd (false≢true e)

pub register_more : (k : ℕ) (b : Bus) → AsksRegister k b → AsksRegister (suc k) b
unfolding AsksRegister
register_more k b h = h

pub register_asks :
    (answers : List ℕ) (k a : ℕ) (modify : Bool) (b : Bus) → is_register a ≡ true → AsksRegister k b
    → AsksRegister (suc k) (ask_of answers a modify b).bus
unfolding AsksRegister ask_of
register_asks answers k a modify b e h =
    cond_both (λ g. g.bus.missing ≡ true → g.bus.address < 0x40) (ltb b.used (length answers))
    (answered answers b) (got 0 (asking a modify b))
    (λ t. h)
    (λ t. cond_both (λ q. q.missing ≡ true → q.address < 0x40) b.missing b
    (record { used = b.used; missing = true; modify = modify; address = a }) (λ m. h) (λ m n. ltb-true a 0x40 e))

pub unasked_answered : (answers : List ℕ) → Answered answers 0 unasked
unfolding Answered
unasked_answered answers l = record { given = refl; used = omega arith }

pub answered_more : (answers : List ℕ) (k : ℕ) (b : Bus) → Answered answers k b → Answered answers (suc k) b
unfolding Answered
answered_more answers k b h l =
    let w : Within k b = h (omega arith) in
    record { given = w.given; used = omega (arith, w.used) }

pub answered_asks :
    (answers : List ℕ) (k a : ℕ) (modify : Bool) (b : Bus) → is_register a ≡ true → Answered answers k b
    → Answered answers (suc k) (ask_of answers a modify b).bus
unfolding Answered ask_of
answered_asks answers k a modify b e h l =
    let w : Within k b = h (omega arith) in
    cond_both (λ g. Within (suc k) g.bus) (ltb b.used (length answers)) (answered answers b)
    (got 0 (asking a modify b))
    (λ t. record { given = w.given; used = omega (arith, w.used) })
    (λ t. absurd (let f = ltb-false b.used (length answers) t in omega (arith, w.used)))
