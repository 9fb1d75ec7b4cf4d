use mathlib.Core.Path.{◌∙◌}
use borrow.Author.Rules.{rules}
use borrow.Author.Tests.{tests}
use lib.Dec.{eqb}
use Rattle.std.proofs.lemmas.Iterator.{YieldsList-from_slice}
use Rattle.std.proofs.lemmas.Iterator.Consumers.{YieldsList-at, count_from_yields_List}
use Rattle.std.proofs.lemmas.Iterator.Search.{YieldsList-from_take_while}
use Rattle.std.proofs.lemmas.List.Folds.{length-prefix_len}
use Rattle.pin_lists.proofs.Steps.{input_count_prefix}
use Rattle.pin_lists.proofs.input_count.Goals as goal

pub returns : goal.returns
returns c =
    let clock = c.args.clock in
    let ts = c.args.clocks.now in
    count_from_yields_List c.take_while.result _ c.count.ensures.ran
    (YieldsList-from_take_while _ (λ t. eqb t clock)
    (YieldsList-at c.take_while.ensures.source (YieldsList-from_slice ts c.iter.ensures.rest))
    c.take_while.ensures.closure c.take_while.ensures.done (λ x b q k. search (rules, tests)))
    ∙ length-prefix_len (λ t. eqb t clock) ts
    ∙ input_count_prefix clock ts
