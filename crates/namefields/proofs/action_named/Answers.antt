-- `namefields::action_named` meets its contract.
use borrow.Author.Rules.{rules}
use borrow.Author.Tests.{tests}
use lib.ListN.{get_or}
use Rattle.std.proofs.lemmas.Iterator.{first_from_Range}
use Rattle.answer.specs.Limits.{max_actions}
use Rattle.named.specs.NamedText.{is_named}
use Rattle.namefields.specs.NameFields.{name_from, name_by}
use Rattle.namefields.proofs.NameLaws.{found-least}
use Rattle.namefields.proofs.action_named.Goals as goal

pub returns : goal.returns
returns c =
    let a = c.args in
    found-least (λ k. is_named (name_from a.text.now a.at) (name_by a.text.now (get_or a.places.now k 0))) max_actions _
    (first_from_Range _ _ _ _ _ _ c.find.ensures.ran (λ k q e. search (rules, tests)) (λ k q e. search (rules, tests)))
