use mathlib.Core.Path.{◌∙◌}
use borrow.Author.Rules.{rules}
use borrow.Author.Tests.{tests}
use Rattle.std.proofs.lemmas.Iterator.{YieldsList-from_slice}
use Rattle.std.proofs.lemmas.Iterator.Search.{all_from_yields_List}
use Rattle.tape_records.specs.Digits.{is_digit}
use Rattle.tape_records.proofs.DigitLaws.{digits_all}
use Rattle.tape_records.proofs.digits.all_digits.Goals as goal

pub returns : goal.returns
returns c =
    let text = c.args.text.now in
    all_from_yields_List is_digit _ _ _ c.all.ensures.ran (YieldsList-from_slice text c.iter.ensures.rest)
    (λ x b q k. search (rules, tests))
    ∙ digits_all text
