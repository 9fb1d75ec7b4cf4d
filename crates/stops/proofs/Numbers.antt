-- The number that is handed back is 0 just where nothing stopped.
use mathlib.Core.Path.{◌≡◌, refl}
use mathlib.Core.Bool.{Bool, true, false, false≢true}
use lib.Dec.{eqb}
use Rattle.std.specs.Prelude.{Option, None, Some, is_none}
use Rattle.stops.specs.declared.Stop.{Stop}
use Rattle.stops.specs.declared.Stop.TheVariants.{Undefined, Full, Halted}
use Rattle.stops.specs.Stops.{number_of}

pub number_none : (stop : Option Stop) → eqb (number_of stop) 0 ≡ is_none stop
number_none None = refl
number_none (Some Undefined) = refl
number_none (Some Full) = refl
number_none (Some Halted) = refl

pub none_true : (stop : Option Stop) → is_none stop ≡ true → stop ≡ None
none_true None e = refl
none_true (Some stop) e = absurd (false≢true e)
