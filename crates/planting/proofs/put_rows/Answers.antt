-- `planting::put_rows`: the rows, then the zeros.
use mathlib.Core.Path.{◌≡◌}
use Prim.Native.Nat.{◌≤◌}
use native.Mathlib.Omega.{arith}
use lib.ListN.{length}
use Rattle.answer.specs.Limits.{max_rows}
use Rattle.treenames.specs.Names.{tree_in}
use Rattle.planting.proofs.LineWalks.{rows_written}
use Rattle.planting.proofs.put_rows.Goals as goal

pub put_lines-n-requires : goal.put_lines-n-requires
put_lines-n-requires c = let p = c.requires in (p.0, p.1)

pub overflow_mul-n : goal.overflow_mul-n
overflow_mul-n c =
    let rows_few : c.put_lines-n.result ≤ max_rows = let p = c.requires in omega (arith, c.put_lines-n.ensures.1, p.0.rows) in
    omega (arith, rows_few)

pub overflow_add-n : goal.overflow_add-n
overflow_add-n c =
    let rows_few : c.put_lines-n.result ≤ max_rows = let p = c.requires in omega (arith, c.put_lines-n.ensures.1, p.0.rows) in
    omega (arith, rows_few)

pub overflow_sub-n : goal.overflow_sub-n
overflow_sub-n c =
    let rows_few : c.put_lines-n.result ≤ max_rows = let p = c.requires in omega (arith, c.put_lines-n.ensures.1, p.0.rows) in
    omega (arith, rows_few)

pub overflow_mul-n-2 : goal.overflow_mul-n-2
overflow_mul-n-2 c = omega arith

pub zero_words-requires : goal.zero_words-requires
zero_words-requires c =
    let rows_few : c.put_lines-n.result ≤ max_rows = let p = c.requires in omega (arith, c.put_lines-n.ensures.1, p.0.rows) in
    let k : length c.put_lines-n.new.into ≡ length c.args.into.now = c.put_lines-n.auto.into in
    let f = rows_few in
    let r = c.requires.1 in
    (omega (arith, k, f, r), omega (arith, f))

pub returns : goal.returns
returns c = rows_written (tree_in c.args.text.now) c.args.into.now _ _ c.put_lines-n.result c.put_lines-n.ensures.1 c.put_lines-n.ensures.0
    c.zero_words.ensures
