-- `text::write` meets its contract.
use mathlib.Core.Path.{sym, ◌∙◌}
use native.Mathlib.Omega.{arith}
use Rattle.layout.proofs.ImageIsSane.{image-is-sane}
use Rattle.table.proofs.ImageExactly.{image-exactly}
use Rattle.text.proofs.WriteLaws.{no_table, no_room, written}
use Rattle.text.proofs.write.Goals as goal

pub returns-then-not-recognise : goal.returns-then-not-recognise
returns-then-not-recognise c = no_table c.args.table.now c.args.text.now (sym c.recognise.ensures ∙ c.if-not-recognise.true)

pub text_length-needed-requires : goal.text_length-needed-requires
text_length-needed-requires c = image-is-sane c.args.table.now ((image-exactly c.args.table.now).0 (sym c.recognise.ensures ∙ c.if-not-recognise.false))

pub returns-then-text-needed : goal.returns-then-text-needed
returns-then-text-needed c = no_room c.args.table.now c.args.text.now (sym c.recognise.ensures
    ∙ c.if-not-recognise.false) c.text_length-needed.result c.text_length-needed.ensures c.if-text-needed.true

pub write_text-requires : goal.write_text-requires
write_text-requires c = (
  image-is-sane c.args.table.now ((image-exactly c.args.table.now).0 (sym c.recognise.ensures
      ∙ c.if-not-recognise.false)),
  omega (arith, c.text_length-needed.ensures, c.if-text-needed.false),
)

pub returns : goal.returns
returns c = written c.args.table.now c.args.text.now (sym c.recognise.ensures
    ∙ c.if-not-recognise.false) _ _ (omega (arith, c.text_length-needed.ensures, c.if-text-needed.false))
    c.write_text.ensures
