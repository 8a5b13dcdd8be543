-- `writing::put_kind` meets its contract: the first of the four sets that has the action.
use mathlib.Core.Path.{sym, ap}
use native.Mathlib.Omega.{arith}
use lib.ListN.{length}
use Rattle.print.proofs.LaidLaws.{put_as}
use Rattle.layout.specs.Image.{comp_of}
use Rattle.writing.proofs.Parts.{has_word, kind-in, kind-out, kind-uin, kind-uout}
use Rattle.writing.proofs.put_kind.Goals as goal

pub put_word-requires : goal.put_word-requires
unfolding comp_of
put_word-requires c =
    let w = kind-in (comp_of c.args.t.now c.args.i) c.args.a (has_word _ _ _ _ _ c.block_word.ensures c.has.ensures c.if-has.true) in
    omega (arith, c.requires.3, ap length w)

pub returns-then-has : goal.returns-then-has
unfolding comp_of
returns-then-has c =
    let w = kind-in (comp_of c.args.t.now c.args.i) c.args.a (has_word _ _ _ _ _ c.block_word.ensures c.has.ensures c.if-has.true) in
    put_as c.put_word.ensures _ (sym w)

pub put_word-requires-then-has-2 : goal.put_word-requires-then-has-2
unfolding comp_of
put_word-requires-then-has-2 c =
    let w = kind-out (comp_of c.args.t.now c.args.i) c.args.a (has_word _ _ _ _ _ c.block_word.ensures c.has.ensures c.if-has.false) (has_word _ _ _ _ _ c.block_word-2.ensures c.has-2.ensures c.if-has-2.true) in
    omega (arith, c.requires.3, ap length w)

pub returns-then-has-2 : goal.returns-then-has-2
unfolding comp_of
returns-then-has-2 c =
    let w = kind-out (comp_of c.args.t.now c.args.i) c.args.a (has_word _ _ _ _ _ c.block_word.ensures c.has.ensures c.if-has.false) (has_word _ _ _ _ _ c.block_word-2.ensures c.has-2.ensures c.if-has-2.true) in
    put_as c.put_word-then-has-2.ensures _ (sym w)

pub put_word-requires-then-has-3 : goal.put_word-requires-then-has-3
unfolding comp_of
put_word-requires-then-has-3 c =
    let w = kind-uin (comp_of c.args.t.now c.args.i) c.args.a (has_word _ _ _ _ _ c.block_word.ensures c.has.ensures c.if-has.false) (has_word _ _ _ _ _ c.block_word-2.ensures c.has-2.ensures c.if-has-2.false) (has_word _ _ _ _ _ c.block_word-3.ensures c.has-3.ensures c.if-has-3.true) in
    omega (arith, c.requires.3, ap length w)

pub returns-then-has-3 : goal.returns-then-has-3
unfolding comp_of
returns-then-has-3 c =
    let w = kind-uin (comp_of c.args.t.now c.args.i) c.args.a (has_word _ _ _ _ _ c.block_word.ensures c.has.ensures c.if-has.false) (has_word _ _ _ _ _ c.block_word-2.ensures c.has-2.ensures c.if-has-2.false) (has_word _ _ _ _ _ c.block_word-3.ensures c.has-3.ensures c.if-has-3.true) in
    put_as c.put_word-then-has-3.ensures _ (sym w)

pub put_word-requires-2 : goal.put_word-requires-2
unfolding comp_of
put_word-requires-2 c =
    let w = kind-uout (comp_of c.args.t.now c.args.i) c.args.a (has_word _ _ _ _ _ c.block_word.ensures c.has.ensures c.if-has.false) (has_word _ _ _ _ _ c.block_word-2.ensures c.has-2.ensures c.if-has-2.false) (has_word _ _ _ _ _ c.block_word-3.ensures c.has-3.ensures c.if-has-3.false) in
    omega (arith, c.requires.3, ap length w)

pub returns : goal.returns
unfolding comp_of
returns c =
    let w = kind-uout (comp_of c.args.t.now c.args.i) c.args.a (has_word _ _ _ _ _ c.block_word.ensures c.has.ensures c.if-has.false) (has_word _ _ _ _ _ c.block_word-2.ensures c.has-2.ensures c.if-has-2.false) (has_word _ _ _ _ _ c.block_word-3.ensures c.has-3.ensures c.if-has-3.false) in
    put_as c.put_word-2.ensures _ (sym w)
