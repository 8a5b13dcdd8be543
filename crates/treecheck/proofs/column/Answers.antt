-- `treecheck::column` meets its contract. The loop's invariant: the first that is no member, sought from here on, stands where it stands in all.
use mathlib.Core.Path.{sym, ◌∙◌}
use Prim.Native.Nat.{◌-◌}
use native.Mathlib.Omega.{arith}
use Rattle.measure.proofs.Fields.{width-most}
use Rattle.treecheck.proofs.NumberLaws.{sought-begins, sought-done, sought-here, sought-on, word-most, own-column, own-wide}
use Rattle.treecheck.proofs.column.Goals as goal

pub overflow_add-k : goal.overflow_add-k
overflow_add-k c = let w = c.word_width-k.ensures in let m = word-most c.args.e.sort in omega (arith, w, m)

pub returns-then-not-is_in : goal.returns-then-not-is_in
returns-then-not-is_in c = own-column _ _ _ c.word_width-k.ensures (sym c.is_in.ensures ∙ c.if-not-is_in.true)

pub overflow_add-k-2 : goal.overflow_add-k-2
overflow_add-k-2 c = let w = c.word_width-k.ensures in
    let m = word-most c.args.e.sort in
    omega (arith, w, m)

pub overflow_add-k-3 : goal.overflow_add-k-3
overflow_add-k-3 c = let w = c.word_width-k.ensures in
    let a = c.args in
    let m = word-most a.e.sort in
    let d = c.width.ensures in
    let n = width-most a.e.number in
    omega (arith, w, m, d, n)

pub loop-j-init : goal.loop-j-init
loop-j-init c = sought-begins _ _ _ _

pub returns-then-not-is_in-2 : goal.returns-then-not-is_in-2
returns-then-not-is_in-2 c = own-wide _ _ _ _ _ c.word_width-k.ensures c.width.ensures (sym c.is_in.ensures ∙ c.if-not-is_in.false)
    (sought-here _ _ _ _ _ _ c.loop-j.invariant c.loop-j-test.true _ c.input_at-x.ensures
    (sym c.is_in-in-loop-j.ensures ∙ c.if-not-is_in-2.true))

pub overflow_add-k-in-loop-j : goal.overflow_add-k-in-loop-j
overflow_add-k-in-loop-j c = let a = c.args in
    let f = c.loop-j.invariant.small in
    let t = c.loop-j-test.true in
    let d = c.width.ensures in
    let n = width-most a.e.number in
    let v = c.word_width-k.ensures in
    let m = word-most a.e.sort in
    let p = c.requires in
    omega (arith, f, t, d, n, v, m, p)

pub overflow_add-k-in-loop-j-2 : goal.overflow_add-k-in-loop-j-2
overflow_add-k-in-loop-j-2 c = let a = c.args in
    let f = c.loop-j.invariant.small in
    let t = c.loop-j-test.true in
    let d = c.width.ensures in
    let n = width-most a.e.number in
    let v = c.word_width-k.ensures in
    let m = word-most a.e.sort in
    let p = c.requires in
    let x = c.width-in-loop-j.ensures in
    let y = width-most c.input_at-x.result in
    omega (arith, f, t, d, n, v, m, p, x, y)

pub loop-j-preserved : goal.loop-j-preserved
loop-j-preserved c = sought-on _ _ _ _ _ _ c.loop-j.invariant c.loop-j-test.true _ c.input_at-x.ensures _ c.width-in-loop-j.ensures
    (sym c.is_in-in-loop-j.ensures ∙ c.if-not-is_in-2.false)

pub returns : goal.returns
returns c = own-wide _ _ _ _ _ c.word_width-k.ensures c.width.ensures (sym c.is_in.ensures ∙ c.if-not-is_in.false)
    (sought-done _ _ _ _ _ _ c.loop-j.invariant c.loop-j-test.false)
