-- `intake::take_in` meets its contract: each kind of line by the call that changes its words.
use mathlib.Core.Path.{refl, sym, subst}
use mathlib.Core.List.{[], ◌∷◌}
use Prim.Native.Nat.{ℕ, ◌-◌}
use native.Mathlib.Omega.{arith}
use borrow.Author.Tests.{eq-eqb, ne_eqb}
use Rattle.reading.specs.Changes.{Joined, block_at, RowPut}
use Rattle.layout.specs.Layout.{image_words}
use Rattle.intake.specs.Change.{Begins, Change, Fits}
use Rattle.intake.proofs.Kept.{set-word-most, joined-kept}
use Rattle.intake.proofs.take_in.Goals as goal

pub put_comp-requires : goal.put_comp-requires
put_comp-requires c = subst (Fits c.args.table.now c.args.p) c.in-Comp.is c.requires

pub overflow_sub-at : goal.overflow_sub-at
overflow_sub-at c = let f = subst (Fits c.args.table.now c.args.p) c.in-Act.is c.requires in
    omega (arith, f.1)

pub overflow_mul-at : goal.overflow_mul-at
overflow_mul-at c = let f = subst (Fits c.args.table.now c.args.p) c.in-Act.is c.requires in
    omega (arith, f.1)

pub overflow_add-at : goal.overflow_add-at
overflow_add-at c = let f = subst (Fits c.args.table.now c.args.p) c.in-Act.is c.requires in
    omega (arith, f.1)

pub overflow_add-at-in-Act : goal.overflow_add-at-in-Act
overflow_add-at-in-Act c = let f = subst (Fits c.args.table.now c.args.p) c.in-Act.is c.requires in
    omega (arith, f.1, c.set_word.ensures, set-word-most c.in-Act.kind)

pub add_member-requires : goal.add_member-requires
add_member-requires c = let f = subst (Fits c.args.table.now c.args.p) c.in-Act.is c.requires in
    (omega (arith, f.0, f.1, c.set_word.ensures, set-word-most c.in-Act.kind), f.2)

pub overflow_sub-at-in-Clk : goal.overflow_sub-at-in-Clk
overflow_sub-at-in-Clk c = let f = subst (Fits c.args.table.now c.args.p) c.in-Clk.is c.requires in
    omega (arith, f.1)

pub overflow_mul-at-in-Clk : goal.overflow_mul-at-in-Clk
overflow_mul-at-in-Clk c = let f = subst (Fits c.args.table.now c.args.p) c.in-Clk.is c.requires in
    omega (arith, f.1)

pub overflow_add-at-in-Clk : goal.overflow_add-at-in-Clk
overflow_add-at-in-Clk c = let f = subst (Fits c.args.table.now c.args.p) c.in-Clk.is c.requires in
    omega (arith, f.1)

pub overflow_add-at-in-Clk-2 : goal.overflow_add-at-in-Clk-2
overflow_add-at-in-Clk-2 c = let f = subst (Fits c.args.table.now c.args.p) c.in-Clk.is c.requires in
    omega (arith, f.1)

pub add_member-requires-in-Clk : goal.add_member-requires-in-Clk
add_member-requires-in-Clk c = let f = subst (Fits c.args.table.now c.args.p) c.in-Clk.is c.requires in
    (omega (arith, f.0, f.1), f.2)

pub overflow_add-at-then-set-eq1 : goal.overflow_add-at-then-set-eq1
overflow_add-at-then-set-eq1 c = let f = subst (Fits c.args.table.now c.args.p) c.in-Clk.is c.requires in
    omega (arith, f.1)

pub add_member-requires-then-set-eq1 : goal.add_member-requires-then-set-eq1
add_member-requires-then-set-eq1 c = let f = subst (Fits c.args.table.now c.args.p) c.in-Clk.is c.requires in
    (omega (arith, f.0, f.1, (joined-kept {n = image_words} c.add_member-in-Clk.ensures (omega (arith, f.1))).long), f.2)

pub overflow_sub-p : goal.overflow_sub-p
overflow_sub-p c = let f = subst (Fits c.args.table.now c.args.p) c.in-Row.is c.requires in
    omega (arith, f.1)

pub returns-in-Row : goal.returns-in-Row
returns-in-Row c = let a = c.args in
    let t' = c.put_row.new.table in
    let r = c.in-Row.resets in
    let put : ℕ → Type 0 = λ g. RowPut a.table.now (a.p.components - 1) a.p.states a.p.rows c.in-Row.from
    (c.in-Row.action ∷ g ∷ r.set ∷ c.in-Row.target ∷ []) t' in
    subst (λ x. Change a.table.now a.p x t') (sym c.in-Row.is) (subst put c.guard_number-g.ensures c.put_row.ensures)

pub put_row-requires : goal.put_row-requires
put_row-requires c = let f = subst (Fits c.args.table.now c.args.p) c.in-Row.is c.requires in
    (f.0, omega (arith, f.1), f.2, f.3, f.4, f.5)

pub returns-in-Comp : goal.returns-in-Comp
returns-in-Comp c = let a = c.args in
    subst (λ x. Change a.table.now a.p x c.put_comp.new.table) (sym c.in-Comp.is) c.put_comp.ensures

pub returns-in-Act : goal.returns-in-Act
returns-in-Act c = let a = c.args in
    let t' = c.add_member.new.table in
    let j = subst (λ w. Joined a.table.now (block_at (a.p.components - 1) w) c.in-Act.action t') c.set_word.ensures
    c.add_member.ensures in
    subst (λ x. Change a.table.now a.p x t') (sym c.in-Act.is) j

pub returns-then-set-eq1 : goal.returns-then-set-eq1
returns-then-set-eq1 c = let a = c.args in
    let mid = c.add_member-in-Clk.new.table in
    let t' = c.add_member-then-set-eq1.new.table in
    let j = subst (λ b. Begins b mid (block_at (a.p.components - 1) 7) c.in-Clk.clock t') (sym (eq-eqb c.in-Clk.set 1 c.if-set-eq1.true))
    c.add_member-then-set-eq1.ensures in
    subst (λ x. Change a.table.now a.p x t') (sym c.in-Clk.is)
    (record { mid = mid; declared = c.add_member-in-Clk.ensures; started = j })

pub returns-else-set-eq1 : goal.returns-else-set-eq1
returns-else-set-eq1 c = let a = c.args in
    let mid = c.add_member-in-Clk.new.table in
    let j = subst (λ b. Begins b mid (block_at (a.p.components - 1) 7) c.in-Clk.clock mid) (sym (ne_eqb c.in-Clk.set 1 c.if-set-eq1.false)) refl in
    subst (λ x. Change a.table.now a.p x mid) (sym c.in-Clk.is)
    (record { mid = mid; declared = c.add_member-in-Clk.ensures; started = j })
