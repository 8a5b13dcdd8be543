-- `columns::row_column` meets its contract.
use mathlib.Core.Path.{◌≡◌, sym, ◌∙◌, ap}
use Prim.Native.Nat.{◌+◌}
use native.Mathlib.Omega.{arith}
use lib.ListN.{drop}
use Rattle.model.specs.Reading.{stop_column}
use Rattle.measure.proofs.Fields.{width-most}
use Rattle.columns.specs.Columns.{resets_out, before_resets}
use Rattle.columns.proofs.CaseLaws.{wide-most, row_from, row-guard, row-action, row-resets}
use Rattle.columns.proofs.row_column.Goals as goal

pub returns-then-a-row : goal.returns-then-a-row
returns-then-a-row c = let a = c.args in
    sym (row_from a.text.now a.at a.a a.row.from a.row.guard a.row.action c.if-a-row.true)

pub overflow_add-g : goal.overflow_add-g
overflow_add-g c = omega (arith, c.width-g.ensures, width-most c.args.row.from)

pub returns-then-guard_out : goal.returns-then-guard_out
returns-then-guard_out c = let a = c.args in
    ap (λ n. 6 + n) c.width-g.ensures
    ∙ sym (row-guard a.text.now a.at a.a a.row.from a.row.guard a.row.action c.if-a-row.false (sym
    c.guard_out.ensures ∙ c.if-guard_out.true))

pub overflow_add-n : goal.overflow_add-n
overflow_add-n c = omega (arith, c.width-g.ensures, width-most c.args.row.from)

pub overflow_add-n-2 : goal.overflow_add-n-2
overflow_add-n-2 c = let a = c.args in
    omega (arith, c.width-g.ensures, width-most a.row.from, c.guard_width.ensures, wide-most a.row.guard)

pub returns-then-not-is_in : goal.returns-then-not-is_in
returns-then-not-is_in c = let a = c.args in
    let w = c.guard_width in
    let sum : 6 + c.width-g.result + 1 + w.result ≡ _ = λ i. 6 + c.width-g.ensures i + 1 + w.ensures i in
    let kept = sym c.guard_out.ensures ∙ c.if-guard_out.false in
    let out = sym c.is_in.ensures ∙ c.if-not-is_in.true in
    sum ∙ sym (row-action a.text.now a.at a.a a.row.from a.row.guard a.row.action c.if-a-row.false kept out)

pub overflow_add-resets : goal.overflow_add-resets
overflow_add-resets c = let a = c.args in
    let g = c.guard_width in
    omega (arith, c.width-g.ensures, width-most a.row.from, g.ensures, wide-most a.row.guard, c.width.ensures, width-most a.row.action)

pub overflow_add-at : goal.overflow_add-at
overflow_add-at c = let g = c.guard_width in
    omega (
      arith,
      c.width-g.ensures,
      width-most c.args.row.from,
      g.ensures,
      wide-most c.args.row.guard,
      c.width.ensures,
      width-most c.args.row.action,
      c.requires,
      c.well_formed,
    )

pub returns : goal.returns
returns c = let a = c.args in
    let t = a.text.now in
    let w2 = c.width in
    let sum : 6 + c.width-g.result + 1 + c.guard_width.result + w2.result ≡ before_resets a.row.from a.row.guard a.row.action =
    λ i. 6 + c.width-g.ensures i + 1 + c.guard_width.ensures i + w2.ensures i in
    let kept = sym c.guard_out.ensures ∙ c.if-guard_out.false in
    let p = c.is_in in
    let in-it = sym p.ensures ∙ c.if-not-is_in.false in
    let found = c.resets_out-first.ensures ∙ ap (λ k. resets_out a.a.clocks (drop (a.at + k) t)) sum in
    c.column_at.ensures ∙ ap (stop_column (drop a.at t)) found ∙ sym (row-resets t a.at a.a a.row.from a.row.guard a.row.action
    c.if-a-row.false kept in-it)
