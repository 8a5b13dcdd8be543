-- `merge::joined` meets its contract.
use mathlib.Core.Path.{◌∙◌, ap}
use Prim.Native.Nat.{suc, ◌≤◌, ◌<◌}
use native.Mathlib.Omega.{arith}
use lib.ListN.{length}
use lib.Seq.{sets}
use Rattle.merged.specs.Merge.{merged_at}
use Rattle.layout.specs.Layout.{count_of, image_words}
use Rattle.layout.specs.Image.{image_of, model_of}
use Rattle.layout.proofs.ImageIsSane.{image-is-sane}
use Rattle.layout.proofs.RowsOfRange.{count-some}
use Rattle.merge.proofs.Called.{stays, few-states, is-short, is-alone, is-big, is-merged-model}
use Rattle.merge.proofs.joined.Goals as goal

pub count_of-requires : goal.count_of-requires
count_of-requires c = (image-is-sane c.args.t.now c.requires.0).long

pub overflow_sub-last : goal.overflow_sub-last
overflow_sub-last c = omega (arith, c.count_of.ensures, count-some c.args.t.now c.requires.0)

pub returns : goal.returns
returns c = let z = c.size_of in
    let one = c.if-into-lt-WORDS.false in
    let two = c.if-last-i.false in
    let next : suc c.args.i < count_of c.args.t.now = omega (arith, c.count_of.ensures, one, two) in
    let room : image_words ≤ length c.args.into.now = omega (arith, one, two) in
    let f = z.ensures.0.fits _ c.in-Some.is in
    is-merged-model c.args.t.now c.args.i c.args.into.now c.requires.0 c.requires.1 room next f.0 _
    (c.put_merged.ensures ∙ ap (λ l. sets l 0 (image_of (merged_at (model_of c.args.t.now) c.args.i))) z.ensures.1)

pub returns-then-into-lt-WORDS : goal.returns-then-into-lt-WORDS
returns-then-into-lt-WORDS c = is-short c.args.t.now c.args.i c.args.into.now c.requires.0 c.requires.1 c.if-into-lt-WORDS.true _ c.refused.ensures

pub returns-then-last-i : goal.returns-then-last-i
returns-then-last-i c = is-alone c.args.t.now c.args.i c.args.into.now c.requires.0 c.requires.1 c.if-into-lt-WORDS.false
    (λ h. omega (arith, c.count_of.ensures, c.if-last-i.true)) _ c.refused-then-last-i.ensures

pub returns-in_default : goal.returns-in_default
returns-in_default c = let z = c.size_of in
    let next : suc c.args.i < count_of c.args.t.now = omega (arith, c.count_of.ensures, c.if-last-i.false) in
    stays c.args.t.now c.args.i c.args.into.now _ _ z.ensures.1
    (is-big c.args.t.now c.args.i c.args.into.now c.requires.0 c.requires.1 c.if-into-lt-WORDS.false next
    (z.ensures.0.big c.in_default.is) _ c.refused-in_default.ensures)

pub put_merged-requires : goal.put_merged-requires
put_merged-requires c = let z = c.size_of in
    let next : suc c.args.i < count_of c.args.t.now = omega (arith, c.count_of.ensures, c.if-last-i.false) in
    let f = z.ensures.0.fits _ c.in-Some.is in (
      c.requires.0,
      omega (arith, next),
      omega (arith, ap length z.ensures.1, c.if-into-lt-WORDS.false),
      few-states c.args.t.now c.args.i next f.0,
      f.1,
      f.0.rows,
    )
