use mathlib.Core.Path.{refl}
use Rattle.cpu_kinds.specs.Kinds.{with_register}
use Rattle.cpu_kinds.proofs.kinds.with_register.Goals as goal

pub returns-in-Dex : goal.returns-in-Dex
unfolding with_register
returns-in-Dex c = rw (c.into_x.ensures, c.decrement.ensures, c.in-Dex.is) refl

pub returns-in-Dey : goal.returns-in-Dey
unfolding with_register
returns-in-Dey c = rw (c.into_y.ensures, c.decrement-in-Dey.ensures, c.in-Dey.is) refl

pub returns-in-Inx : goal.returns-in-Inx
unfolding with_register
returns-in-Inx c = rw (c.into_x-in-Inx.ensures, c.increment.ensures, c.in-Inx.is) refl

pub returns-in-Iny : goal.returns-in-Iny
unfolding with_register
returns-in-Iny c = rw (c.into_y-in-Iny.ensures, c.increment-in-Iny.ensures, c.in-Iny.is) refl

pub returns-in-Tax : goal.returns-in-Tax
unfolding with_register
returns-in-Tax c = rw (c.load_x.ensures, c.in-Tax.is) refl

pub returns-in-Tay : goal.returns-in-Tay
unfolding with_register
returns-in-Tay c = rw (c.load_y.ensures, c.in-Tay.is) refl

pub returns-in-Tsx : goal.returns-in-Tsx
unfolding with_register
returns-in-Tsx c = rw (c.load_x-in-Tsx.ensures, c.in-Tsx.is) refl

pub returns-in-Txa : goal.returns-in-Txa
unfolding with_register
returns-in-Txa c = rw (c.load_a.ensures, c.in-Txa.is) refl

pub returns-in-Txs : goal.returns-in-Txs
unfolding with_register
returns-in-Txs c = rw (c.with_sp.ensures, c.in-Txs.is) refl

pub returns-in-Tya : goal.returns-in-Tya
unfolding with_register
returns-in-Tya c = rw (c.load_a-in-Tya.ensures, c.in-Tya.is) refl
