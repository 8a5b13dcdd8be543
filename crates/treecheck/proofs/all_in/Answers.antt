-- `treecheck::all_in_lem` meets its contract. The loop's invariant: what is asked of the inputs from here on is what is asked of all.
use mathlib.Core.Path.{sym, ◌∙◌}
use mathlib.Core.Bool.{true, false}
use Prim.Native.Nat.{◌-◌}
use Rattle.treecheck.proofs.NumberLaws.{asked-begins, asked-done, asked-out, asked-on, own_out, own_in}
use Rattle.treecheck.proofs.all_in.Goals as goal

pub returns-then-not-is_in : goal.returns-then-not-is_in
returns-then-not-is_in c = own_out _ _ (sym c.is_in.ensures ∙ c.if-not-is_in.true)

pub loop-j-init : goal.loop-j-init
loop-j-init c = asked-begins _ _ _

pub returns-then-not-is_in-2 : goal.returns-then-not-is_in-2
returns-then-not-is_in-2 c = own_in _ _ true (sym c.is_in.ensures ∙ c.if-not-is_in.false)
    (asked-out _ _ _ _ c.loop-j.invariant c.loop-j-test.true _ c.input_at-x.ensures
    (sym c.is_in-in-loop-j.ensures ∙ c.if-not-is_in-2.true))

pub loop-j-preserved : goal.loop-j-preserved
loop-j-preserved c = asked-on _ _ _ _ c.loop-j.invariant c.loop-j-test.true _ c.input_at-x.ensures
    (sym c.is_in-in-loop-j.ensures ∙ c.if-not-is_in-2.false)

pub returns : goal.returns
returns c = own_in _ _ false (sym c.is_in.ensures ∙ c.if-not-is_in.false)
    (asked-done _ _ _ _ c.loop-j.invariant c.loop-j-test.false)
