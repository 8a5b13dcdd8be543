-- `outset::start` meets its contract: 20 where the table is not recognised, else the start of its model.
use mathlib.Core.Path.{◌≡◌, ◌∙◌}
use mathlib.Core.Bool.{Bool, true}
use mathlib.Core.List.{List}
use Prim.Native.Nat.{ℕ}
use borrow.Author.Rules.{rules}
use Rattle.layout.specs.Image.{Image}
use Rattle.layout.proofs.ImageIsSane.{image-long, count-below}
use Rattle.layout.proofs.JoinedInModel.{started-joined}
use Rattle.outset.proofs.Called.{is-image, refused-20, begins}
use Rattle.table.specs.IsImage.{is_image}
use Rattle.outset.proofs.start.Goals as goal

-- what is known where the table was recognised
known : (w : Bool) {t : List ℕ} → w ≡ is_image t → w ≡ true → Image t
known w e f = is-image _ w e f

pub returns-then-not-recognise : goal.returns-then-not-recognise
returns-then-not-recognise c = refused-20 c.args.table.now c.recognise.result c.recognise.ensures c.if-not-recognise.true

pub joined-requires : goal.joined-requires
joined-requires c = (image-long _ (known c.recognise.result c.recognise.ensures c.if-not-recognise.false), count-below _ (known c.recognise.result c.recognise.ensures c.if-not-recognise.false), search rules)

pub start_state-requires : goal.start_state-requires
start_state-requires c = known c.recognise.result c.recognise.ensures c.if-not-recognise.false

pub returns : goal.returns
returns c = let r = c.recognise in
    begins c.args.table.now r.result r.ensures c.if-not-recognise.false _ (c.joined.ensures ∙ started-joined c.args.table.now) c.start_state.ensures
