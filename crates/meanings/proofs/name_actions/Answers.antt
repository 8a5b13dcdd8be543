-- `meanings::name_actions` meets its contract. The loop's invariant: the words so far, with those of the lines from here on, are all.
use mathlib.Core.Path.{refl}
use Prim.Native.Nat.{◌≤◌}
use native.Mathlib.Omega.{arith}
use Rattle.treelines.specs.Elements.{sort_is}
use Rattle.treenames.proofs.Passing.{line-there, first_read, fewer_bytes}
use Rattle.meanings.proofs.FirstLine.{number-low}
use Rattle.meanings.proofs.Gathering.{few-signals, low-signal, naming-begins, lines-low, naming-done, naming-on}
use Rattle.meanings.proofs.name_actions.Goals as goal

pub loop-at-init : goal.loop-at-init
loop-at-init c = let p = c.requires in naming-begins _ _ _ p.0 p.1 p.2

pub line_at-line-requires : goal.line_at-line-requires
line_at-line-requires c = line-there _ _ _ c.loop-at.invariant.left c.loop-at-test.true

pub has-requires : goal.has-requires
has-requires c =
    let here = first_read c.args.text.now c.loop-at.at c.loop-at.invariant.rest c.loop-at.invariant.left c.loop-at-test.true c.line_at-line.result c.line_at-line.ensures in
    let number_fits = number-low _ _ _ _ here in
    omega (arith, number_fits)

pub overflow_mul-w : goal.overflow_mul-w
overflow_mul-w c =
    let here = first_read c.args.text.now c.loop-at.at c.loop-at.invariant.rest c.loop-at.invariant.left c.loop-at-test.true c.line_at-line.result c.line_at-line.ensures in
    let number_fits = number-low _ _ _ _ here in
    omega (arith, number_fits)

pub overflow_add-w : goal.overflow_add-w
overflow_add-w c =
    let here = first_read c.args.text.now c.loop-at.at c.loop-at.invariant.rest c.loop-at.invariant.left c.loop-at-test.true c.line_at-line.result c.line_at-line.ensures in
    let number_fits = number-low _ _ _ _ here in
    omega (arith, number_fits, c.first_signal.ensures, low-signal (sort_is c.line_at-line.result.element.sort))

pub put_signals-requires : goal.put_signals-requires
put_signals-requires c =
    let here = first_read c.args.text.now c.loop-at.at c.loop-at.invariant.rest c.loop-at.invariant.left c.loop-at-test.true c.line_at-line.result c.line_at-line.ensures in
    let number_fits = number-low _ _ _ _ here in
    let lines_fit = lines-low c.args.text.now _ _ c.loop-at.components c.loop-at.actions c.loop-at.at c.loop-at.words c.loop-at.invariant in
    let signals-few : c.signal_count-n.result ≤ 5 = omega (arith, c.signal_count-n.ensures, few-signals (sort_is c.line_at-line.result.element.sort) c.has.result) in
    let l = c.loop-at in
    let inv = l.invariant in
    let low = lines_fit in
    let few = inv.few in
    let n = signals-few in
    let v = number_fits in
    let first = low-signal (sort_is c.line_at-line.result.element.sort) in
    let is = c.first_signal.ensures in
    (inv.long, omega (arith, few, low), omega (arith, n), omega (arith, v, first, is))

pub overflow_add-components : goal.overflow_add-components
overflow_add-components c =
    let lines_fit = lines-low c.args.text.now _ _ c.loop-at.components c.loop-at.actions c.loop-at.at c.loop-at.words c.loop-at.invariant in
    omega (arith, lines_fit)

pub overflow_add-actions : goal.overflow_add-actions
overflow_add-actions c =
    let lines_fit = lines-low c.args.text.now _ _ c.loop-at.components c.loop-at.actions c.loop-at.at c.loop-at.words c.loop-at.invariant in
    let signals-few : c.signal_count-n.result ≤ 5 = omega (arith, c.signal_count-n.ensures, few-signals (sort_is c.line_at-line.result.element.sort) c.has.result) in
    let few = c.loop-at.invariant.few in
    omega (arith, lines_fit, few, signals-few)

pub loop-at-smaller : goal.loop-at-smaller
loop-at-smaller c = let l = c.loop-at in
    fewer_bytes c.args.text.now l.at l.invariant.rest l.invariant.left c.loop-at-test.true c.line_at-line.result c.line_at-line.ensures

pub loop-at-preserved : goal.loop-at-preserved
loop-at-preserved c =
    let here = first_read c.args.text.now c.loop-at.at c.loop-at.invariant.rest c.loop-at.invariant.left c.loop-at-test.true c.line_at-line.result c.line_at-line.ensures in
    let l = c.loop-at in
    naming-on c.args.text.now _ _ l.components l.actions l.at l.words l.invariant _ _ here _ _ _ c.has.result c.first_signal.result
    c.has.ensures c.signal_count-n.ensures c.first_signal.ensures refl c.put_signals.ensures

pub returns : goal.returns
returns c = let l = c.loop-at in naming-done _ _ _ l.components l.actions l.at l.words l.invariant c.loop-at-test.false _ refl refl
