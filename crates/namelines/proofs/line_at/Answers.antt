-- `namelines::line_at` meets its contract.
use mathlib.Core.Path.{sym, ◌∙◌, ap}
use lib.ListN.{drop}
use Rattle.fields.specs.Fields.{past}
use Rattle.fields.specs.Resets.{valued}
use Rattle.namelines.specs.NamedLines.{code_of}
use Rattle.namelines.proofs.NamedLaws.{line-form, line-name, line-act, line_row, line_other}
use Rattle.namelines.proofs.line_at.Goals as goal

-- Where a word is not there, the line that it would start is none.
pub returns-in-Ok : goal.returns-in-Ok
returns-in-Ok c = let t = c.args.text.now in
    c.form_line.ensures
    ∙ sym (ap (valued code_of) (line-form (drop c.args.c.at t) (sym c.word.ensures ∙ ap (past t) c.in-Ok.is)))

pub returns-in-Ok-word : goal.returns-in-Ok-word
returns-in-Ok-word c = let t = c.args.text.now in
    c.name_line.ensures
    ∙ sym (ap (valued code_of) (line-name (drop c.args.c.at t)
    (sym c.word.ensures ∙ ap (past t) c.in_default.is)
    (sym c.word-2.ensures ∙ ap (past t) c.in-Ok-word.is)))

pub returns-in-Ok-word-2 : goal.returns-in-Ok-word-2
returns-in-Ok-word-2 c = let t = c.args.text.now in
    c.act_line.ensures
    ∙ sym (ap (valued code_of) (line-act (drop c.args.c.at t)
    (sym c.word.ensures ∙ ap (past t) c.in_default.is)
    (sym c.word-2.ensures ∙ ap (past t) c.in_default-word.is)
    (sym c.word-3.ensures ∙ ap (past t) c.in-Ok-word-2.is)))

pub returns-in-Ok-word-3 : goal.returns-in-Ok-word-3
returns-in-Ok-word-3 c = let t = c.args.text.now in
    c.row_line.ensures
    ∙ sym (ap (valued code_of) (line_row (drop c.args.c.at t)
    (sym c.word.ensures ∙ ap (past t) c.in_default.is)
    (sym c.word-2.ensures ∙ ap (past t) c.in_default-word.is)
    (sym c.word-3.ensures ∙ ap (past t) c.in_default-word-2.is)
    (sym c.word-4.ensures ∙ ap (past t) c.in-Ok-word-3.is)))

pub returns : goal.returns
returns c = let t = c.args.text.now in
    c.other_line.ensures
    ∙ sym (ap (valued code_of) (line_other (drop c.args.c.at t)
    (sym c.word.ensures ∙ ap (past t) c.in_default.is)
    (sym c.word-2.ensures ∙ ap (past t) c.in_default-word.is)
    (sym c.word-3.ensures ∙ ap (past t) c.in_default-word-2.is)
    (sym c.word-4.ensures ∙ ap (past t) c.in_default-word-3.is)))
