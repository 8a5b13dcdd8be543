-- `treelines::sort_of` meets its contract.
use mathlib.Core.Path.{sym, ◌∙◌, ap}
use lib.ListN.{drop}
use Rattle.model.specs.Reading.{stops, shorter}
use Rattle.fields.specs.Fields.{past}
use Rattle.treelines.proofs.SortLaws.{sort-be, sort-and, sort-or, sort-pand, sort-rbox, sort-none}
use Rattle.treelines.proofs.sort_of.Goals as goal

pub returns-in-Ok : goal.returns-in-Ok
returns-in-Ok c =
    let t = c.args.text.now in
    sym (sort-be (drop c.args.c.at t) (sym c.word.ensures ∙ ap (past t) c.in-Ok.is))

pub returns-in-Ok-word : goal.returns-in-Ok-word
returns-in-Ok-word c =
    let t = c.args.text.now in
    let no-be = sym c.word.ensures ∙ ap (past t) c.in-Err.is in
    sym (sort-and (drop c.args.c.at t) no-be (sym c.word-in-Err.ensures ∙ ap (past t) c.in-Ok-word.is))

pub returns-in-Ok-word-2 : goal.returns-in-Ok-word-2
returns-in-Ok-word-2 c =
    let t = c.args.text.now in
    let no-be = sym c.word.ensures ∙ ap (past t) c.in-Err.is in
    let no-and = sym c.word-in-Err.ensures ∙ ap (past t) c.in-Err-word.is in
    sym (sort-or (drop c.args.c.at t) no-be no-and (sym c.word-in-Err-word.ensures ∙ ap (past t) c.in-Ok-word-2.is))

pub returns-in-Ok-word-3 : goal.returns-in-Ok-word-3
returns-in-Ok-word-3 c =
    let t = c.args.text.now in
    let no-be = sym c.word.ensures ∙ ap (past t) c.in-Err.is in
    let no-and = sym c.word-in-Err.ensures ∙ ap (past t) c.in-Err-word.is in
    let no_or = sym c.word-in-Err-word.ensures ∙ ap (past t) c.in-Err-word-2.is in
    sym (sort-pand (drop c.args.c.at t) no-be no-and no_or (sym c.word-in-Err-word-2.ensures ∙ ap (past t) c.in-Ok-word-3.is))

pub returns-in-Ok-word-4 : goal.returns-in-Ok-word-4
returns-in-Ok-word-4 c =
    let t = c.args.text.now in
    let no-be = sym c.word.ensures ∙ ap (past t) c.in-Err.is in
    let no-and = sym c.word-in-Err.ensures ∙ ap (past t) c.in-Err-word.is in
    let no_or = sym c.word-in-Err-word.ensures ∙ ap (past t) c.in-Err-word-2.is in
    let no-pand = sym c.word-in-Err-word-2.ensures ∙ ap (past t) c.in-Err-word-3.is in
    sym (sort-rbox (drop c.args.c.at t) no-be no-and no_or no-pand (sym c.word-in-Err-word-3.ensures ∙ ap (past t) c.in-Ok-word-4.is))

pub returns-in-Err-word-4 : goal.returns-in-Err-word-4
returns-in-Err-word-4 c =
    let t = c.args.text.now in
    let no-be = sym c.word.ensures ∙ ap (past t) c.in-Err.is in
    let no-and = sym c.word-in-Err.ensures ∙ ap (past t) c.in-Err-word.is in
    let no_or = sym c.word-in-Err-word.ensures ∙ ap (past t) c.in-Err-word-2.is in
    let no-pand = sym c.word-in-Err-word-2.ensures ∙ ap (past t) c.in-Err-word-3.is in
    let no-rbox = sym c.word-in-Err-word-3.ensures ∙ ap (past t) c.in-Err-word-4.is in
    let f1 = ap (shorter _) (c.further.ensures t) in
    let f2 = ap (shorter _) (c.further-in-Err-word-4.ensures t ∙ f1) in
    let f3 = ap (shorter _) (c.further-in-Err-word-4-2.ensures t ∙ f2) in
    ap (λ l. stops l) (c.further-in-Err-word-4-3.ensures t ∙ f3) ∙ sym (sort-none (drop c.args.c.at t) no-be no-and no_or no-pand no-rbox)
