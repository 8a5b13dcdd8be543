-- `roles::earlier` meets its contract. The loop's invariant: what is found from here on is what is found at all.
use mathlib.Core.Path.{refl, sym, ◌∙◌, ap}
use Prim.Native.Nat.{◌-◌}
use Rattle.laws.specs.Sets.{has}
use Rattle.laws.specs.Search.{when, is_some}
use Rattle.laws.proofs.SearchLaws.{seek-end, test-here, test-next}
use Rattle.roles.proofs.earlier.Goals as goal

pub loop-j-init : goal.loop-j-init
loop-j-init c = refl

pub returns-then-has : goal.returns-then-has
returns-then-has c = let a = c.args in
    let h = ap (has a.s) (sym c.digit.ensures) ∙ sym c.has.ensures ∙ c.if-has.true in
    ap is_some (sym (test-here (λ k. has a.s (a.n - k)) c.loop-j.j a.i c.loop-j-test.true h)) ∙ c.loop-j.invariant

pub loop-j-preserved : goal.loop-j-preserved
loop-j-preserved c = let a = c.args in
    let h = ap (has a.s) (sym c.digit.ensures) ∙ sym c.has.ensures ∙ c.if-has.false in
    ap is_some (sym (test-next (λ k. has a.s (a.n - k)) c.loop-j.j a.i c.loop-j-test.true h)) ∙ c.loop-j.invariant

pub returns : goal.returns
returns c = let a = c.args in
    ap is_some (sym (seek-end (λ k. when (has a.s (a.n - k)) k) c.loop-j.j a.i c.loop-j-test.false)) ∙ c.loop-j.invariant
