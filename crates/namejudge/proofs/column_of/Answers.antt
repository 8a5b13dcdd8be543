-- `namejudge::column_of` meets its contract.
use mathlib.Core.Path.{◌≡◌, sym, ◌∙◌, ap}
use mathlib.Core.List.{List}
use Prim.Native.Nat.{ℕ, ◌+◌, ◌-◌, ◌≤◌}
use native.Mathlib.Omega.{arith}
use lib.ListN.{length}
use Rattle.answer.specs.Limits.{max_bytes}
use Rattle.measure.proofs.Fields.{width-most}
use Rattle.fields.specs.declared.Guard.{Guard}
use Rattle.namefields.specs.NameFields.{name_from, found_is}
use Rattle.namelines.specs.NamedLines.{before_name}
use Rattle.namelines.proofs.NamedLaws.{guard-most}
use Rattle.namelaws.specs.Judging.{action_of, before_row, column_by}
use Rattle.namelaws.proofs.ColumnLaws.{name-most, row-most, column-found}
use Rattle.namejudge.proofs.column_of.Goals as goal
use Rattle.namejudge.proofs.column_of.Goals.{After-guard_width, After-width-wide, In-Row}

abbrev text_at : In-Row → List ℕ
text_at c = c.args.text.now

abbrev place_at : In-Row → ℕ
place_at c = c.args.at

abbrev from_at : In-Row → ℕ
from_at c = c.in-Row.from

abbrev guard_at : In-Row → Guard
guard_at c = c.in-Row.guard

inside : (c : In-Row) → place_at c + before_row (from_at c) (guard_at c) ≤ length (text_at c)
inside c = omega (arith, c.requires.1, ap before_name c.in-Row.is)

-- ---- how many bytes stand before the name
abbrev row : After-guard_width → In-Row
row c = (goal.at.After-guard_width c).In-Row

abbrev before_at : After-guard_width → ℕ
before_at c = 6 + c.width.result + c.guard_width.result

before-is : (c : After-guard_width) → before_at c ≡ before_row (from_at (row c)) (guard_at (row c))
before-is c = omega (arith, c.width.ensures, c.guard_width.ensures)

-- ---- the name and the number are measured
abbrev guarded : After-width-wide → After-guard_width
guarded c = (goal.at.After-width-wide c).After-guard_width

record Measured (c : After-width-wide) : Type 0 where
  before : before_at (guarded c) ≡ before_row (from_at (row (guarded c))) (guard_at (row (guarded c)))
  low : 7 ≤ place_at (row (guarded c))
  end : c.name_end-end.result
      ≡ place_at (row (guarded c)) + before_at (guarded c) + length (name_from (text_at (row (guarded c))) (place_at (row (guarded c)) + before_at (guarded c)))
  inside : c.name_end-end.result ≤ length (text_at (row (guarded c)))
  short : length (text_at (row (guarded c))) ≤ max_bytes
  wide : c.width-wide.result ≤ 5

measured : (c : After-width-wide) → Measured c
measured c =
    let g = guarded c in
    let r = row g in
    let b = before-is g in
    let e = c.name_end-end.ensures in
    record {
      before = b;
      low = r.requires.0;
      end = e;
      inside = omega (arith, e, name-most (text_at r) (place_at r + before_at g) (omega (arith, inside r, b)));
      short = r.requires.2;
      wide = omega (arith, c.width-wide.ensures, width-most g.action_of-action.result);
    }

pub overflow_add-before : goal.overflow_add-before
overflow_add-before c = omega (arith, c.width.ensures, width-most (from_at (goal.at.overflow_add-before c).In-Row))

pub overflow_add-before-in-Row : goal.overflow_add-before-in-Row
overflow_add-before-in-Row c = omega (arith, c.width.ensures, c.guard_width.ensures, width-most (from_at (row c)), guard-most (guard_at (row c)))

pub overflow_add-at : goal.overflow_add-at
overflow_add-at c = omega (arith, inside (row c), before-is c, c.requires.2)

pub overflow_sub-end : goal.overflow_sub-end
overflow_sub-end c = let m = measured c in omega (arith, m.end)

pub overflow_sub-end-in-Row : goal.overflow_sub-end-in-Row
overflow_sub-end-in-Row c = let m = measured c in omega (arith, m.end, m.low, m.wide)

pub value_column-k-requires : goal.value_column-k-requires
value_column-k-requires c = let m = measured c in omega (arith, m.inside)

pub overflow_add-before-in-Row-2 : goal.overflow_add-before-in-Row-2
overflow_add-before-in-Row-2 c = let m = measured (goal.at.overflow_add-before-in-Row-2 c).After-width-wide in omega (arith, m.end, m.inside, m.short)

pub overflow_sub-end-in-Row-2 : goal.overflow_sub-end-in-Row-2
overflow_sub-end-in-Row-2 c = let m = measured (goal.at.overflow_sub-end-in-Row-2 c).After-width-wide in omega (arith, m.end)

pub overflow_sub-end-in-Row-3 : goal.overflow_sub-end-in-Row-3
overflow_sub-end-in-Row-3 c = let m = measured (goal.at.overflow_sub-end-in-Row-3 c).After-width-wide in omega (arith, m.end)

pub moved-requires : goal.moved-requires
moved-requires c = let m = measured (goal.at.moved-requires c).After-width-wide in
    let r = row (guarded (goal.at.moved-requires c).After-width-wide) in
    let a = r.args in
    let x = c.action_of-action.result in (
      omega (arith, m.wide),
      omega (arith, m.inside, m.short),
      omega (
        arith,
        c.value_column-k.ensures,
        row-most (text_at r) (c.name_end-end.result - before_at (guarded (goal.at.moved-requires c).After-width-wide) - c.width-wide.result) a.a (from_at r) (guard_at r) x,
        m.short,
      ),
    )

pub value_column-requires : goal.value_column-requires
value_column-requires c = omega (arith, c.requires.1)

pub returns-in-Form : goal.returns-in-Form
returns-in-Form c = let a = c.args in
    ap (λ l. column_by a.text.now a.at a.a l (found_is a.found)) (sym c.in-Form.is)

pub returns-in-Name : goal.returns-in-Name
returns-in-Name c = let a = c.args in
    ap (λ l. column_by a.text.now a.at a.a l (found_is a.found)) (sym c.in-Name.is)

pub returns-in-Act : goal.returns-in-Act
returns-in-Act c = let a = c.args in
    ap (λ l. column_by a.text.now a.at a.a l (found_is a.found)) (sym c.in-Act.is)

pub returns-in-Row : goal.returns-in-Row
returns-in-Row c = let m = measured (goal.at.returns-in-Row c).After-width-wide in
    let g = guarded (goal.at.returns-in-Row c).After-width-wide in
    let r = row g in
    let a = r.args in
    let l = r.in-Row in
    let x = g.action_of-action in
    c.moved.ensures
    ∙ column-found (text_at r) a.at a.a (from_at r) (guard_at r) l.resets l.target
    (before_at g) c.name_end-end.result c.width-wide.result
    x.result (action_of (found_is a.found)) c.value_column-k.result m.before m.end
    x.ensures c.width-wide.ensures c.value_column-k.ensures
    ∙ ap (λ l. column_by (text_at r) a.at a.a l (found_is a.found)) (sym l.is)

pub returns-in-Plain : goal.returns-in-Plain
returns-in-Plain c = let a = c.args in
    c.value_column.ensures ∙ ap (λ l. column_by a.text.now a.at a.a l (found_is a.found)) (sym c.in-Plain.is)
