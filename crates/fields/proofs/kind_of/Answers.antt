-- `fields::kind_of` meets its contract.
use mathlib.Core.Path.{sym, ◌∙◌, ap}
use lib.ListN.{drop}
use Rattle.model.specs.Reading.{stops, shorter}
use Rattle.fields.specs.Fields.{past}
use Rattle.fields.proofs.FieldLaws.{kind-in, kind-out, kind-uin, kind-uout, kind-none}
use Rattle.fields.proofs.kind_of.Goals as goal

-- Where a word is not there, the text's bytes read no word of its kind.
pub returns-in-Ok : goal.returns-in-Ok
returns-in-Ok c = let t = c.args.text.now in
    sym (kind-in (drop c.args.c.at t) (sym c.word.ensures ∙ ap (past t) c.in-Ok.is))

pub returns-in-Ok-word : goal.returns-in-Ok-word
returns-in-Ok-word c = let t = c.args.text.now in
    sym (kind-out (drop c.args.c.at t)
    (sym c.word.ensures ∙ ap (past t) c.in-Err.is)
    (sym c.word-in-Err.ensures ∙ ap (past t) c.in-Ok-word.is))

pub returns-in-Ok-word-2 : goal.returns-in-Ok-word-2
returns-in-Ok-word-2 c = let t = c.args.text.now in
    sym (kind-uin (drop c.args.c.at t)
    (sym c.word.ensures ∙ ap (past t) c.in-Err.is)
    (sym c.word-in-Err.ensures ∙ ap (past t) c.in-Err-word.is)
    (sym c.word-in-Err-word.ensures ∙ ap (past t) c.in-Ok-word-2.is))

pub returns-in-Ok-word-3 : goal.returns-in-Ok-word-3
returns-in-Ok-word-3 c = let t = c.args.text.now in
    sym (kind-uout (drop c.args.c.at t)
    (sym c.word.ensures ∙ ap (past t) c.in-Err.is)
    (sym c.word-in-Err.ensures ∙ ap (past t) c.in-Err-word.is)
    (sym c.word-in-Err-word.ensures ∙ ap (past t) c.in-Err-word-2.is)
    (sym c.word-in-Err-word-2.ensures ∙ ap (past t) c.in-Ok-word-3.is))

pub returns-in-Err-word-3 : goal.returns-in-Err-word-3
returns-in-Err-word-3 c = let t = c.args.text.now in
    let last = ap (shorter _) (c.further.ensures t) in
    let more = ap (shorter _) (c.further-in-Err-word-3.ensures t ∙ last) in
    ap (λ l. stops l) (c.further-in-Err-word-3-2.ensures t ∙ more)
    ∙ sym (kind-none (drop c.args.c.at t)
    (sym c.word.ensures ∙ ap (past t) c.in-Err.is)
    (sym c.word-in-Err.ensures ∙ ap (past t) c.in-Err-word.is)
    (sym c.word-in-Err-word.ensures ∙ ap (past t) c.in-Err-word-2.is)
    (sym c.word-in-Err-word-2.ensures ∙ ap (past t) c.in-Err-word-3.is))
