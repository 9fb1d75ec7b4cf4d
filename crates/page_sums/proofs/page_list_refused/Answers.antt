use Rattle.page_sums.specs.PageSums.{page_list_refused}
use mathlib.Core.Path.{refl}
use Rattle.page_sums.proofs.page_list_refused.Goals as goal

pub returns : goal.returns
unfolding page_list_refused
returns c = refl
